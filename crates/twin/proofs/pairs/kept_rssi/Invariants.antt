use Rattle.std.proofs.Common.{◌≡◌, ℕ, ◌-◌, ◌≤◌}
use Rattle.pasts.specs.Pair.{kept_in}
use Rattle.twin.specs.Table.{after}
use Rattle.twin.specs.Hears.{start_of}
use Rattle.twin.proofs.pairs.kept_rssi.Given as goal

abbrev pub invariant-loop-i : goal.invariant-loop-i
invariant-loop-i l =
    (l.k ≤ l.i) × (l.i ≤ l.n)
    × ((h : ℕ) → kept_in (start_of l.t h l.a l.k) (after l.t l.k (l.n - l.k)) ≡ kept_in (start_of l.t h l.a l.k) (after l.t l.k (l.i - l.k)))
