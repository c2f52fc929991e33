use Prim.Native.Nat.{◌-◌, ◌≤◌}
use mathlib.Core.Path.{◌≡◌}
use mathlib.Core.Bool.{◌&&◌}
use mathlib.Core.List.{map}
use lib.ListN.{take, drop}
use Rattle.laws.specs.Tests.{sames}
use Rattle.laws.specs.Rows.{rows}
use Rattle.model.specs.Layout.{most_pairs}
use Rattle.wholes.specs.Layout.{entry_size}
use Rattle.index.specs.Walk.{row_mask}
use Rattle.index.proofs.walk.is_gathered.Given as goal

abbrev pub invariant-loop-j : goal.invariant-loop-j
invariant-loop-j l =
    (l.j ≤ l.k) × (sames (map row_mask (take l.k (rows entry_size most_pairs l.table))) (take l.k l.masks)
    ≡ (l.all && sames (drop l.j (map row_mask (take l.k (rows entry_size most_pairs l.table)))) (drop l.j (take l.k l.masks))))

abbrev pub decreases-loop-j : goal.decreases-loop-j
decreases-loop-j l =
    l.k - l.j
