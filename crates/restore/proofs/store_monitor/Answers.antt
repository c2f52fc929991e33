use lib.ListN.{length}
use Rattle.laws.specs.PutLaws.{put_of}
use Rattle.restore.specs.LinesLaws.{monitor-other, monitor-own}
use native.Mathlib.Omega.{arith}
use Rattle.restore.proofs.store_monitor.Goals as goal

pub overflow_cast-h : goal.overflow_cast-h
overflow_cast-h c = omega (arith, c.shared_slice_known-2-1.given 0)

pub returns-then-h-ge-MONITORS : goal.returns-then-h-ge-MONITORS
returns-then-h-ge-MONITORS c = monitor-other _ _ (omega arith)

pub returns : goal.returns
returns c = let a = c.args in
    monitor-own _ _ (omega arith) (put_of _ _ _ (length a.row.now) (length a.s.now)
    c.copy.ensures.0 (omega arith) c.copy.ensures.1)
