use Prim.Native.Nat.{◌-◌, ◌≤◌}
use mathlib.Core.Path.{◌≡◌}
use mathlib.Core.Bool.{true}
use Rattle.soundness.specs.Below.{all_below}
use Rattle.soundness.specs.Clauses.{place_test}
use Rattle.soundness.proofs.held_pairs_sound.Given as goal

abbrev pub invariant-loop-i : goal.invariant-loop-i
invariant-loop-i l =
    (l.i ≤ l.c) × (all_below (place_test l.s) l.i ≡ true)

abbrev pub decreases-loop-i : goal.decreases-loop-i
decreases-loop-i l =
    l.c - l.i
