use borrow.Author.Tests.{lt-ltb, le-ltb, le-leb, lt-leb}
use Rattle.laws.specs.Tests.{pick}
use Rattle.shown.specs.Line.{why_no_text}
use Rattle.shown.proofs.why_no_text.Goals as goal

pub returns-then-n-le1 : goal.returns-then-n-le1
unfolding why_no_text Rattle.laws.specs.Tests.pick
returns-then-n-le1 c = rw (le-leb _ _ c.if-n-le1.true)

pub returns-then-n-gt-LONGEST : goal.returns-then-n-gt-LONGEST
unfolding why_no_text Rattle.laws.specs.Tests.pick
returns-then-n-gt-LONGEST c = rw (lt-leb _ _ c.if-n-le1.false, lt-ltb _ _ c.if-n-gt-LONGEST.true)

pub returns : goal.returns
unfolding why_no_text Rattle.laws.specs.Tests.pick
returns c = rw (lt-leb _ _ c.if-n-le1.false, le-ltb _ _ c.if-n-gt-LONGEST.false)
