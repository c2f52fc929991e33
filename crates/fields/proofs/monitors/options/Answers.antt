use native.Mathlib.Omega.{arith}
use Rattle.words.specs.SaysLaws.{then, taken, left}
use Rattle.fields.specs.Monitors.{options_text}
use Rattle.model.specs.Quoted.{codes}
use borrow.Author.Tests.{eq-eqb, ne_eqb}
use Rattle.fields.proofs.monitors.options.Goals as goal

pub returns-then-x-eq0 : goal.returns-then-x-eq0
unfolding options_text codes
returns-then-x-eq0 c = taken _ _ (eq-eqb _ _ c.if-x-eq0.true) c.put.ensures

pub overflow_mul-x : goal.overflow_mul-x
overflow_mul-x c = omega (
  arith,
  c.ranges.x,
)

pub returns : goal.returns
unfolding options_text codes
returns c = left _ _ (ne_eqb _ _ c.if-x-eq0.false)
    (then (then (then (then (then (then c.bit-a.ensures c.bit-b.ensures)
    c.bit-c.ensures) c.bit-d.ensures) c.bit-e.ensures)
    c.bit-f.ensures) c.reserved.ensures)
