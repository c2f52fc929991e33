use Prim.Native.Nat.{◌-◌, ◌≤◌}
use mathlib.Core.Path.{◌≡◌}
use mathlib.Core.Bool.{◌&&◌}
use lib.Dec.{eqb}
use lib.ListN.{length, drop}
use Rattle.laws.specs.Loops.{every}
use Rattle.parts.specs.Parts.{is_zero}
use Rattle.soundness.proofs.tails.zeros_from.Given as goal

abbrev pub invariant-loop-i : goal.invariant-loop-i
invariant-loop-i l =
    (l.i ≤ length l.r) × ((eqb l.any 0 && every is_zero (drop l.i l.r)) ≡ every is_zero (drop l.from l.r)) × (l.any ≡ 0 → l.initial.any ≡ 0)

abbrev pub decreases-loop-i : goal.decreases-loop-i
decreases-loop-i l =
    length l.r - l.i
