use Prim.Native.Nat.{◌+◌, ◌-◌, ◌≤◌}
use mathlib.Core.Path.{◌≡◌}
use lib.ListN.{take}
use Rattle.laws.specs.LoopsLaws.{part}
use Rattle.laws.specs.Rows.{rows}
use Rattle.model.specs.Layout.{most_pairs}
use Rattle.wholes.specs.Layout.{entry_size}
use Rattle.index.specs.Table.{place_in}
use Rattle.index.proofs.table.place.Given as goal

abbrev pub invariant-loop-j : goal.invariant-loop-j
invariant-loop-j l =
    (l.j ≤ l.k) × (place_in l.dev (take l.k (rows entry_size most_pairs l.table))
    ≡ l.j + place_in l.dev (part l.j l.k (rows entry_size most_pairs l.table)))

abbrev pub decreases-loop-j : goal.decreases-loop-j
decreases-loop-j l =
    l.k - l.j
