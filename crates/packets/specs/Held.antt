-- The loop over the pairs held: the turn of a row by its key, and the turn of the loop. Document 01, Watching, by
-- history ("only packets that match its condition count"). Assumes nothing.
use Rattle.std.specs.Prelude.{◌≡◌, ℕ, ◌<◌, List, slice_index}
use Rattle.octets.specs.Little.{value}
use Rattle.rule.specs.Base.{All}
use Rattle.rule.specs.Engine.{find}
use Rattle.model.specs.Types.{Monitor, Packet, Pair, watched}
use Rattle.marks.specs.Marks.{mark}
use Rattle.packets.specs.Keys.{device_number}
use Rattle.packets.specs.Device.{Sender}

-- the octet of a pair's handle, where the pair is of the packet's device
abbrev pub Heard : List (ℕ × Monitor) → Packet → List ℕ → Pair → Type 0
Heard mons p acts q = value (watched q) ≡ device_number p → slice_index acts q.handle ≡ mark (find mons q.handle) p

-- what the turn of a pair's row is given of the packet: its fields in range, the number of its device, the octet of
-- the pair's handle
pub record Given (mons : List (ℕ × Monitor)) (p : Packet) (acts : List ℕ) (dev : ℕ) (q : Pair) : Type 0 where
  pub sender : Sender p dev
  pub heard : Heard mons p acts q

-- no window is full
abbrev pub Roomy : List Pair → Type 0
Roomy qs = All (λ (q : Pair). q.packets < 4294967295) qs
