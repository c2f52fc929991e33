use Prim.Native.Nat.{◌-◌, ◌≤◌}
use mathlib.Core.Path.{◌≡◌}
use lib.ListN.{length}
use Rattle.wholes.specs.Layout.{whole_size}
use Rattle.prefixes.specs.Held.{edition_count}
use Rattle.prefixes.specs.LaidLaws.{Laid}
use Rattle.prefixes.proofs.is_laid.Given as goal

abbrev pub invariant-loop-i : goal.invariant-loop-i
invariant-loop-i l =
    (l.i ≤ edition_count l.s) × ((e : length l.s ≡ whole_size) → Laid l.s e l.i)

abbrev pub decreases-loop-i : goal.decreases-loop-i
decreases-loop-i l =
    l.count - l.i
