use Rattle.laws.specs.Tests.{pick}
use borrow.Author.Tests.{eq-eqb, ne_eqb}
use native.Mathlib.Omega.{arith}
use Rattle.save.proofs.one_if.Goals as goal

pub returns-then-interval-eq0 : goal.returns-then-interval-eq0
unfolding pick
returns-then-interval-eq0 c = (rw (eq-eqb c.args.interval 0 c.if-interval-eq0.true), omega arith)

pub returns : goal.returns
unfolding pick
returns c = (rw (ne_eqb c.args.interval 0 (λ e. c.if-interval-eq0.false e)), omega arith)
