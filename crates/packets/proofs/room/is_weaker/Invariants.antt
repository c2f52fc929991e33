use Rattle.std.proofs.Common.{◌≡◌, ◌-◌, ◌≤◌, false}
use Rattle.model.specs.Layout.{most_pairs}
use Rattle.packets.specs.Shut.{NoneLess}
use Rattle.packets.proofs.room.is_weaker.Given as goal

abbrev pub invariant-loop-j : goal.invariant-loop-j
invariant-loop-j l =
    (l.j ≤ most_pairs) × (l.some ≡ false → NoneLess l.s l.level l.j)

abbrev pub decreases-loop-j : goal.decreases-loop-j
decreases-loop-j l =
    most_pairs - l.j
