use Prim.Native.Nat.{◌-◌, ◌≤◌}
use Rattle.index.specs.InPlaceLaws.{Noting}
use Rattle.index.proofs.note_all.Given as goal

abbrev pub invariant-loop-i : goal.invariant-loop-i
invariant-loop-i l =
    (l.i ≤ l.n) × (l.k ≤ l.i) × Noting l.i l.k l.initial.s l.s l.seen

abbrev pub decreases-loop-i : goal.decreases-loop-i
decreases-loop-i l =
    l.n - l.i
