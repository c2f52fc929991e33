use Prim.Native.Nat.{◌-◌, ◌≤◌}
use mathlib.Core.Path.{◌≡◌}
use Rattle.laws.specs.Loops.{up_to}
use Rattle.prefixes.specs.Held.{edition_count}
use Rattle.save.specs.Passed.{passed}
use Rattle.snapshots.specs.Saved.{line_at}
use Rattle.snapshots.proofs.past_lines.Given as goal

abbrev pub invariant-loop-i : goal.invariant-loop-i
invariant-loop-i l =
    (l.i ≤ edition_count l.s) × (l.at ≡ passed l.text l.from (up_to (line_at l.s) l.i))

abbrev pub decreases-loop-i : goal.decreases-loop-i
decreases-loop-i l =
    l.count - l.i
