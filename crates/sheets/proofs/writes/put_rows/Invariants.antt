use Prim.Native.Nat.{◌-◌}
use Rattle.sheets.proofs.WritingLaws.{Putting}
use Rattle.sheets.proofs.writes.put_rows.Given as goal

abbrev pub invariant-loop-h : goal.invariant-loop-h
invariant-loop-h l =
    Putting l.initial.out l.rows l.out l.at l.h

abbrev pub decreases-loop-h : goal.decreases-loop-h
decreases-loop-h l =
    16 - l.h
