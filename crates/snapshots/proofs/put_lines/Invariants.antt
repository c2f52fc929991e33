use Prim.Native.Nat.{◌+◌, ◌-◌, ◌≤◌}
use mathlib.Core.Path.{◌≡◌}
use lib.ListN.{length}
use Rattle.laws.specs.Put.{put}
use Rattle.laws.specs.Loops.{up_to}
use Rattle.prefixes.specs.Held.{edition_count}
use Rattle.snapshots.specs.Saved.{line_at}
use Rattle.snapshots.proofs.put_lines.Given as goal

abbrev pub invariant-loop-i : goal.invariant-loop-i
invariant-loop-i l =
    (l.i ≤ edition_count l.s) × (length l.out ≡ length l.initial.out) × (l.at ≡ l.from + length (up_to (line_at l.s) l.i))
    × (l.out ≡ put l.initial.out l.from (up_to (line_at l.s) l.i))

abbrev pub decreases-loop-i : goal.decreases-loop-i
decreases-loop-i l =
    l.count - l.i
