use mathlib.Core.Path.{sym, ◌∙◌}
use native.Mathlib.Omega.{arith}
use lib.Seq.{length-take-le}
use borrow.Author.Tests.{lt-ltb, le-ltb}
use Rattle.laws.specs.Tests.{pick}
use Rattle.shown.specs.Line.{number_in, refusal_in}
use Rattle.shown.proofs.refusal_in.Goals as goal

pub returns-then-n-lt2 : goal.returns-then-n-lt2
unfolding refusal_in Rattle.laws.specs.Tests.pick
returns-then-n-lt2 c = rw (lt-ltb _ _ c.if-n-lt2.true)

pub slice_bounds-read-length : goal.slice_bounds-read-length
slice_bounds-read-length c = sym (length-take-le _ _ (omega arith))

pub returns-in-Some : goal.returns-in-Some
unfolding refusal_in number_in Rattle.laws.specs.Tests.pick
returns-in-Some c = rw (
  c.small.ensures,
  le-ltb _ _ c.if-n-lt2.false,
  sym
      c.read-read.ensures ∙ c.in-Some.is,
)

pub returns-in-None : goal.returns-in-None
unfolding refusal_in number_in Rattle.laws.specs.Tests.pick
returns-in-None c = rw (
  le-ltb _ _ c.if-n-lt2.false,
  sym c.read-read.ensures
      ∙ c.in-None.is,
)
