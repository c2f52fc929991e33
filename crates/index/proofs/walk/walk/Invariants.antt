use Prim.Native.Nat.{◌-◌, ◌≤◌}
use mathlib.Core.Path.{◌≡◌}
use mathlib.Core.Bool.{true}
use lib.ListN.{length}
use Rattle.model.specs.Layout.{most_pairs}
use Rattle.wholes.specs.Index.{index_of}
use Rattle.index.specs.Seen.{marks}
use Rattle.index.specs.Once.{once}
use Rattle.index.specs.Walk.{Walked}
use Rattle.index.specs.Compared.{pairs_of}
use Rattle.index.proofs.walk.walk.Given as goal

abbrev pub invariant-loop-i : goal.invariant-loop-i
invariant-loop-i l =
    (l.i ≤ l.n) × (length l.masks ≡ most_pairs) × (length l.slots ≡ marks)
    × Walked (index_of (pairs_of l.i l.pairs)) l.k l.table l.masks l.slots × (once (pairs_of l.i l.pairs) ≡ true)

abbrev pub decreases-loop-i : goal.decreases-loop-i
decreases-loop-i l =
    l.n - l.i
