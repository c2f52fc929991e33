use Rattle.twin.specs.GatheredLaws.{Gathered}
use Rattle.std.proofs.Common.{◌-◌, ◌≤◌}
use Rattle.twin.proofs.pairs.window_of.Given as goal

abbrev pub invariant-loop-i : goal.invariant-loop-i
invariant-loop-i l =
    (l.initial.i ≤ l.i) × (l.i ≤ l.n) × Gathered l.t l.a l.k l.initial.i l.i l.w.packets l.w.sum l.w.last
