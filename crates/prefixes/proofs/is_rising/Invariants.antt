use Prim.Native.Nat.{◌-◌}
use Rattle.prefixes.specs.SoundLaws.{Rises}
use Rattle.prefixes.proofs.is_rising.Given as goal

abbrev pub invariant-loop-i : goal.invariant-loop-i
invariant-loop-i l =
    Rises l.s l.last l.i

abbrev pub decreases-loop-i : goal.decreases-loop-i
decreases-loop-i l =
    l.count - l.i
