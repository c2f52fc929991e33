use Rattle.std.proofs.Common.{◌≡◌, ℕ, ◌+◌, ◌-◌, ◌≤◌}
use Rattle.pasts.specs.Pair.{silent_in}
use Rattle.twin.specs.Table.{after}
use Rattle.twin.specs.Hears.{start_of}
use Rattle.twin.proofs.pairs.silent.Given as goal

abbrev pub invariant-loop-i : goal.invariant-loop-i
invariant-loop-i l =
    (l.k ≤ l.i) × (l.i ≤ l.n) × (l.c + l.i ≤ l.n)
    × ((h : ℕ) → silent_in (start_of l.t h l.a l.k) (after l.t l.k (l.n - l.k)) ≡ l.c + silent_in (start_of l.t h l.a l.k) (after l.t l.k (l.i - l.k)))
