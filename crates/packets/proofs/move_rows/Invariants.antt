use Rattle.std.proofs.Common.{◌≡◌, ℕ, ◌-◌, ◌≤◌, List, length, take}
use Rattle.laws.specs.Loops.{some as some_of}
use Rattle.packets.specs.Whole.{Begun}
use Rattle.packets.specs.Device.{Spans}
use Rattle.packets.specs.HeldLaws.{halfway}
use Rattle.model.specs.Block.{padded}
use Rattle.model.specs.Frames.{packet_of}
use Rattle.model.specs.Types.{Model}
use Rattle.model.specs.Watch.{is_reason}
use Rattle.packets.proofs.move_rows.Given as goal

abbrev pub invariant-loop-i : goal.invariant-loop-i
invariant-loop-i l =
    (l.from ≤ l.i) × (l.i ≤ l.to) × (length l.s ≡ length l.initial.s)
    × ((m : Model) (held : List ℕ) (n : ℕ) → Begun m l.initial.s l.payload l.acts held l.dev n
    → Spans m.pairs (packet_of l.payload) l.from l.to
    → (l.told ≡ some_of (is_reason m.mons (packet_of l.payload)) (take l.i m.pairs))
    × (l.s ≡ padded (halfway m (packet_of l.payload) l.i)))

abbrev pub decreases-loop-i : goal.decreases-loop-i
decreases-loop-i l =
    l.to - l.i
