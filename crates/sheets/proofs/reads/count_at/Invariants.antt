use lib.ListN.{length}
use Prim.Native.Nat.{◌-◌}
use Rattle.sheets.proofs.ReadingLaws.{Counting}
use Rattle.sheets.proofs.reads.count_at.Given as goal

abbrev pub invariant-loop-i : goal.invariant-loop-i
invariant-loop-i l =
    Counting l.text l.at l.i l.value

abbrev pub decreases-loop-i : goal.decreases-loop-i
decreases-loop-i l =
    length l.text - l.i
