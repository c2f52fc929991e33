use mathlib.Core.Path.{sym, ◌∙◌}
use native.Mathlib.Omega.{arith}
use Rattle.fields.specs.Turns.{size-at}
use borrow.Author.Tests.{eq-eqb, ne_eqb, le-leb, lt-leb}
use Rattle.laws.specs.Tests.{pick}
use Rattle.fields.proofs.data.size.Goals as goal

pub returns-then-k-eq0 : goal.returns-then-k-eq0
unfolding Rattle.laws.specs.Tests.pick
returns-then-k-eq0 c = let z = size-at c.args.s.now c.args.at
    c.requires in
    let k = c.wide-k.ensures.0 in
    (sym (z ∙ rw (sym k, eq-eqb _ _ c.if-k-eq0.true)), omega arith, omega arith)

pub returns-then-left-k : goal.returns-then-left-k
unfolding Rattle.laws.specs.Tests.pick
returns-then-left-k c = let z = size-at c.args.s.now
    c.args.at c.requires in
    let k = c.wide-k.ensures.0 in (
      sym (z ∙ rw (sym k, ne_eqb _ _ c.if-k-eq0.false, le-leb _ _ c.if-left-k.true)),
      omega arith,
      omega
          arith,
    )

pub returns : goal.returns
unfolding Rattle.laws.specs.Tests.pick
returns c = let z = size-at c.args.s.now
    c.args.at c.requires in
    let k = c.wide-k.ensures.0 in (
      sym (z ∙ rw (sym k, ne_eqb _ _ c.if-k-eq0.false, lt-leb _ _ c.if-left-k.false)),
      omega arith,
      omega
          arith,
    )
