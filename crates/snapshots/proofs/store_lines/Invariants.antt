use Rattle.snapshots.specs.Stored.{stored_all_on}
use Rattle.restore.specs.Rows.{Row}
use Rattle.snapshots.specs.StoredLaws.{Rest}
use Rattle.rule.specs.Base.{All}
use Rattle.laws.specs.Loops.{each}
use Rattle.lines.specs.Hex.{text_of}
use mathlib.Core.List.{List}
use lib.ListN.{length}
use mathlib.Core.Path.{◌≡◌}
use Prim.Native.Nat.{ℕ, ◌-◌, ◌≤◌}
use Rattle.snapshots.proofs.store_lines.Given as goal

abbrev pub invariant-loop-at : goal.invariant-loop-at
invariant-loop-at l =
    (l.at ≤ l.n) × (length l.s ≡ length l.initial.s)
    × ((rs : List (List ℕ)) → All Row rs → l.text ≡ each text_of rs → Rest l.text l.at l.s (stored_all_on l.initial.s rs))

abbrev pub decreases-loop-at : goal.decreases-loop-at
decreases-loop-at l =
    l.n - l.at
