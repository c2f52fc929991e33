use Rattle.std.proofs.Common.{◌≡◌, ℕ, ◌-◌, ◌<◌, ◌≤◌, length, get_or, take}
use Rattle.model.specs.Types.{Model, Packet, device_of}
use Rattle.model.specs.Watch.{holds}
use Rattle.model.specs.Layout.{most_monitors}
use Rattle.marks.specs.Marks.{flag}
use Rattle.packets.specs.Starts.{Holding}
use Rattle.packets.specs.Device.{Sender, NoneBelow}
use Rattle.packets.proofs.device.held_in.Given as goal

abbrev pub invariant-loop-i : goal.invariant-loop-i
invariant-loop-i l =
    (l.from ≤ l.i) × (l.i ≤ l.to) × (length l.r ≡ most_monitors)
    × ((m : Model) (p : Packet) (n : ℕ) → Holding m l.s n → Sender p l.dev → l.to ≤ n → NoneBelow m.pairs p l.from
    → (h : ℕ) → h < most_monitors → get_or l.r h 0 ≡ flag (holds (take l.i m.pairs) h (device_of p)))

abbrev pub decreases-loop-i : goal.decreases-loop-i
decreases-loop-i l =
    l.to - l.i
