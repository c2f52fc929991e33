use Rattle.std.proofs.Common.{◌+◌, ◌-◌, ◌≤◌}
use Rattle.twin.specs.Seen.{Least, begun_at, level_in}
use Rattle.twin.proofs.turns.weakest.Given as goal

abbrev pub invariant-loop-j : goal.invariant-loop-j
invariant-loop-j l =
    (1 ≤ l.j) × (l.j ≤ l.seen.count) × Least (λ m. level_in l.t (l.i + 1) (begun_at l.seen m)) l.j l.found
