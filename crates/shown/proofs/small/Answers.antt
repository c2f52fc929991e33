use Prim.Native.Nat.{◌%◌}
use mathlib.Core.Path.{◌≡◌, sym, ap, ◌∙◌}
use native.Mathlib.Omega.{arith}
use Rattle.names.specs.NamesLaws.{table_of, looked-up}
use Rattle.names.specs.Refusals.{refusal_rows, refusal_name}
use lib.ListN.{length}
use Rattle.model.specs.Quoted.{codes}
use borrow.Author.Tests.{eq-eqb, ne_eqb, lt-ltb, le-ltb}
use Rattle.laws.specs.Tests.{pick}
use Rattle.shown.specs.Line.{small_of}
use Rattle.shown.proofs.small.Goals as goal

pub returns-then-x-gt255 : goal.returns-then-x-gt255
unfolding small_of Rattle.laws.specs.Tests.pick
returns-then-x-gt255 c = rw (lt-ltb _ _ c.if-x-gt255.true)

pub returns-then-known-eq0 : goal.returns-then-known-eq0
unfolding small_of refusal_name refusal_rows table_of codes Rattle.laws.specs.Tests.pick
returns-then-known-eq0 c = let m : c.args.x % 256 ≡ c.args.x = omega
    arith in
    let q : c.find-known.result.now ≡ refusal_name
    c.args.x = c.find-known.ensures
    ∙ looked-up refusal_rows (c.args.x % 256) ∙ ap refusal_name m in
    rw (
      le-ltb _ _ c.if-x-gt255.false,
      eq-eqb
          (length (refusal_name c.args.x)) 0 (ap length (sym q) ∙ c.if-known-eq0.true),
    )

pub returns : goal.returns
unfolding small_of refusal_name refusal_rows table_of codes Rattle.laws.specs.Tests.pick
returns c = let m : c.args.x % 256 ≡ c.args.x = omega
    arith in
    let q : c.find-known.result.now ≡ refusal_name
    c.args.x = c.find-known.ensures
    ∙ looked-up refusal_rows (c.args.x % 256) ∙ ap refusal_name m in
    rw (
      le-ltb _ _ c.if-x-gt255.false,
      ne_eqb
          (length (refusal_name c.args.x)) 0 (λ e. c.if-known-eq0.false (ap length q ∙ e)),
      m,
    )
