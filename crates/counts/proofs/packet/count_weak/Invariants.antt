use Prim.Native.Nat.{◌-◌, ◌≤◌}
use mathlib.Core.Path.{◌≡◌}
use mathlib.Core.List.{map}
use lib.ListN.{take}
use Rattle.model.specs.Types.{Model, Packet}
use Rattle.model.specs.Level.{level}
use Rattle.model.specs.Watch.{packet_move}
use Rattle.counts.specs.Given.{Given}
use Rattle.packets.specs.Starts.{Holding}
use Rattle.counts.specs.Room.{weak}
use Rattle.counts.proofs.packet.count_weak.Given as goal

abbrev pub invariant-loop-i : goal.invariant-loop-i
invariant-loop-i l =
    (l.i ≤ l.n) × (l.k ≤ l.i) × ((m : Model) (p : Packet) → Holding m l.s l.n → Given m.mons p l.acts l.dev
    → l.least ≡ level p.rssi
    → l.k ≡ weak p.rssi (map (packet_move m.mons p) (take l.i m.pairs)))

abbrev pub decreases-loop-i : goal.decreases-loop-i
decreases-loop-i l =
    l.n - l.i
