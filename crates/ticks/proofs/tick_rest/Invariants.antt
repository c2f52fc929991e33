use Prim.Native.Nat.{ℕ, ◌≤◌, ◌-◌, ◌*◌}
use mathlib.Core.List.{List}
use mathlib.Core.Path.{◌≡◌}
use lib.ListN.{length}
use Rattle.ticks.specs.Row.{kept_at, told_at}
use Rattle.ticks.specs.Table.{Passed}
use Rattle.model.specs.Layout.{report_most}
use Rattle.ticks.proofs.tick_rest.Given as goal

abbrev pub invariant-loop-i : goal.invariant-loop-i
invariant-loop-i l =
    (l.i ≤ l.n) × (l.kept ≤ l.i) × (l.wrote ≤ report_most * l.i) × (length l.t ≡ length l.initial.t) × (length l.out ≡ length l.initial.out)
    × ((u : List ℕ) → Passed u l.initial.t l.initial.out l.initial.out l.from 0 (kept_at l.intervals l.periods u)
    (told_at l.intervals l.periods l.filters l.prefix u) l.from
    → Passed u l.t l.initial.out l.out l.kept l.wrote (kept_at l.intervals l.periods u) (told_at l.intervals l.periods l.filters l.prefix u) l.i)

abbrev pub decreases-loop-i : goal.decreases-loop-i
decreases-loop-i l =
    l.n - l.i
