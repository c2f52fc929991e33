use borrow.Author.Tests.{lt-ltb, le-ltb}
use Rattle.laws.specs.Tests.{pick}
use Rattle.shown.specs.Frames.{is_report}
use Rattle.shown.proofs.framed.is_report.Goals as goal

pub returns-then-n-lt-LEAST_REPORT : goal.returns-then-n-lt-LEAST_REPORT
unfolding is_report Rattle.laws.specs.Tests.pick
returns-then-n-lt-LEAST_REPORT c = rw (lt-ltb _ _ c.if-n-lt-LEAST_REPORT.true)

pub returns : goal.returns
unfolding is_report Rattle.laws.specs.Tests.pick
returns c = rw (
  le-ltb _ _ c.if-n-lt-LEAST_REPORT.false,
  c.in_range-ranged.ensures,
  c.get8-3.ensures,
  c.wide-size.ensures.0,
  c.get8.ensures,
  c.wide-k.ensures.0,
  c.get8-2.ensures,
  c.get8-code.ensures,
  c.get8-one.ensures,
  c.get8-event.ensures,
  c.get8-kind.ensures,
)
