use Rattle.soundness.specs.Below.{all_below}
use mathlib.Core.Bool.{true}
use Prim.Native.Nat.{◌-◌, ◌≤◌}
use Rattle.soundness.specs.CodePairsLaws.{differs}
use mathlib.Core.Path.{◌≡◌}
use Rattle.soundness.proofs.keys.other_sound.Given as goal

abbrev pub invariant-loop-j : goal.invariant-loop-j
invariant-loop-j l =
    (l.j ≤ l.i) × (all_below (differs l.s l.i) l.j ≡ true)

abbrev pub decreases-loop-j : goal.decreases-loop-j
decreases-loop-j l =
    l.i - l.j
