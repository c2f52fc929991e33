use Rattle.twin.specs.WindowsLaws.{looked}
use Rattle.twin.specs.Table.{after}
use Rattle.pasts.specs.Pair.{stretch}
use Rattle.std.proofs.Common.{◌≡◌, ◌-◌, ◌≤◌}
use Rattle.twin.proofs.pairs.behind_tick.Given as goal

abbrev pub invariant-loop-i : goal.invariant-loop-i
invariant-loop-i l =
    (l.k ≤ l.i) × (l.i ≤ l.n) × (stretch l.last (after l.t l.k (l.n - l.k)) ≡ looked l.t l.k l.n l.left l.i)
