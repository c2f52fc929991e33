use Rattle.events.specs.WrittenLaws.{report-done, report-long, report-part, report-out}
use native.Mathlib.Omega.{arith}
use Rattle.events.proofs.put_report.Goals as goal

pub returns-then-device-ne-DEVICE : goal.returns-then-device-ne-DEVICE
returns-then-device-ne-DEVICE c = report-part _ _ _ _ _ _ c.if-device-ne-DEVICE.true

pub returns-then-n-gt-DATA : goal.returns-then-n-gt-DATA
returns-then-n-gt-DATA c = report-long _ _ _ _ _ _ (omega arith) (omega arith)

pub returns-then-all-n : goal.returns-then-all-n
returns-then-all-n c = report-out _ _ _ _ _ _ (omega arith) (omega arith) (omega arith)

pub returns-then-at-all : goal.returns-then-at-all
returns-then-at-all c = report-out _ _ _ _ _ _ (omega arith) (omega arith) (omega arith)

pub returns : goal.returns
returns c = report-done _ _ _ _ _ _ (omega arith) (omega arith) (omega arith)
    c.put_report_in.ensures
