use Rattle.std.proofs.Common.{◌-◌, ◌≤◌}
use Rattle.model.specs.Types.{Model, Packet}
use Rattle.packets.specs.Starts.{Holding}
use Rattle.packets.specs.Device.{Sender, NoneBelow}
use Rattle.packets.proofs.device.first_of.Given as goal

abbrev pub invariant-loop-i : goal.invariant-loop-i
invariant-loop-i l =
    (l.i ≤ l.n) × ((m : Model) (p : Packet) → Holding m l.s l.n → Sender p l.dev → NoneBelow m.pairs p l.i)

abbrev pub decreases-loop-i : goal.decreases-loop-i
decreases-loop-i l =
    l.n - l.i
