-- What a packet counts for a handle, by the handles' octets, the pairs held and the room. Document 02, T-09. Assumes
-- nothing.
use Rattle.std.specs.Prelude.{ℕ, Bool, ◌&&◌, map}
use Rattle.laws.specs.Tests.{sames}
use Rattle.laws.specs.Loops.{some as some_of}
use Rattle.rule.specs.Engine.{find}
use Rattle.model.specs.Types.{Model, Packet, Pair, device_of, watched}
use Rattle.model.specs.Watch.{packet_move, is_reason}
use Rattle.marks.specs.Marks.{keeps, mark}
use Rattle.months.specs.Counts.{of_handle}
use Rattle.counts.specs.Room.{left_of}

-- a pair is of the packet's device, and its handle matches
unfoldable pub met_by : Model → Packet → Pair → Bool
met_by m p q = sames (device_of p) (watched q) && keeps (mark (find m.mons q.handle) p)

-- what is left of the room before a handle's turn, from the pairs held
unfoldable pub left_at : Model → Packet → ℕ → ℕ
left_at m p h = left_of m.mons p (map (packet_move m.mons p) m.pairs) h

-- some pair held wants the packet reported for the handle
unfoldable pub wants_for : Model → Packet → ℕ → Pair → Bool
wants_for m p h q = of_handle h q && is_reason m.mons p q

unfoldable pub wanted : Model → Packet → ℕ → Bool
wanted m p h = some_of (wants_for m p h) m.pairs
