use Rattle.std.proofs.Common.{◌≡◌}
use Rattle.packets.specs.Weakest.{level_at, weakest_below}
use Rattle.packets.proofs.weakest.weakest.Given as goal

abbrev pub invariant-loop-j : goal.invariant-loop-j
invariant-loop-j l =
    (l.weak.at ≡ weakest_below l.s l.j) × (l.weak.least ≡ level_at l.s l.weak.at)
