use Rattle.events.specs.WrittenLaws.{event-done, event-long, event-part, event-out}
use native.Mathlib.Omega.{arith}
use Rattle.events.proofs.put_event.Goals as goal

pub returns-then-n-gt-PREFIX : goal.returns-then-n-gt-PREFIX
returns-then-n-gt-PREFIX c = event-long _ _ _ _ _ (omega arith)

pub returns-then-row-lt-KEY : goal.returns-then-row-lt-KEY
returns-then-row-lt-KEY c = event-part _ _ _ _ _ (omega arith) (omega arith)

pub returns-then-all-n : goal.returns-then-all-n
returns-then-all-n c = event-out _ _ _ _ _ (omega arith) (omega arith) (omega arith)

pub returns-then-at-all : goal.returns-then-at-all
returns-then-at-all c = event-out _ _ _ _ _ (omega arith) (omega arith) (omega arith)

pub returns : goal.returns
returns c = event-done _ _ _ _ _ (omega arith) (omega arith) (omega arith) c.put_event_in.ensures
