use Prim.Native.Nat.{◌-◌, ◌≤◌}
use mathlib.Core.Path.{◌≡◌}
use lib.ListN.{length, take}
use Rattle.laws.specs.Loops.{keep}
use Rattle.model.specs.Types.{Model}
use Rattle.packets.specs.Starts.{Holding}
use Rattle.counts.specs.Ticks.{Known, closed_for}
use Rattle.counts.proofs.tick.count_closed.Given as goal

abbrev pub invariant-loop-i : goal.invariant-loop-i
invariant-loop-i l =
    (l.i ≤ l.n) × (l.k ≤ l.i)
    × ((m : Model) → Known m l.s → Holding m l.s l.n → l.k ≡ length (keep (closed_for m l.h) (take l.i m.pairs)))

abbrev pub decreases-loop-i : goal.decreases-loop-i
decreases-loop-i l =
    l.n - l.i
