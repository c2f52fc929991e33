use Prim.Native.Nat.{◌-◌, ◌≤◌}
use mathlib.Core.Path.{◌≡◌}
use mathlib.Core.Bool.{true}
use lib.ListN.{length}
use Rattle.soundness.specs.Below.{all_below}
use Rattle.soundness.specs.Clauses.{other_test}
use Rattle.soundness.specs.Seen.{marks, Marked}
use Rattle.soundness.proofs.keys.are_others.Given as goal

abbrev pub invariant-loop-i : goal.invariant-loop-i
invariant-loop-i l =
    (l.i ≤ l.c) × (all_below (other_test l.s) l.i ≡ true) × (length l.seen ≡ marks) × Marked l.s l.i l.seen

abbrev pub decreases-loop-i : goal.decreases-loop-i
decreases-loop-i l =
    l.c - l.i
