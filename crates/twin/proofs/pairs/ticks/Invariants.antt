use Rattle.twin.specs.Table.{after}
use Rattle.pasts.specs.Pair.{ticks_among}
use Rattle.std.proofs.Common.{◌≡◌, ◌-◌, ◌≤◌}
use Rattle.twin.proofs.pairs.ticks.Given as goal

abbrev pub invariant-loop-i : goal.invariant-loop-i
invariant-loop-i l =
    (l.k ≤ l.i) × (l.i ≤ l.n) × (l.c ≤ l.i) × (l.c ≡ ticks_among (after l.t l.k (l.i - l.k)))
