use mathlib.Core.Path.{sym, ◌∙◌}
use borrow.Author.Tests.{lt-ltb, le-ltb}
use Rattle.laws.specs.Tests.{pick}
use Rattle.shown.specs.Line.{why_no_frame}
use Rattle.shown.proofs.why_no_frame.Goals as goal

pub returns-then-s-lt-LEAST_FRAME : goal.returns-then-s-lt-LEAST_FRAME
unfolding why_no_frame Rattle.laws.specs.Tests.pick
returns-then-s-lt-LEAST_FRAME c = rw (lt-ltb _ _ c.if-s-lt-LEAST_FRAME.true)

pub returns-then-is_frame : goal.returns-then-is_frame
unfolding why_no_frame Rattle.laws.specs.Tests.pick
returns-then-is_frame c = rw (le-ltb _ _ c.if-s-lt-LEAST_FRAME.false, sym c.is_frame.ensures ∙ c.if-is_frame.true)

pub returns : goal.returns
unfolding why_no_frame Rattle.laws.specs.Tests.pick
returns c = rw (le-ltb _ _ c.if-s-lt-LEAST_FRAME.false, sym c.is_frame.ensures ∙ c.if-is_frame.false)
