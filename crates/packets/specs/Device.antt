-- Which of the pairs held are of the packet's device: between which indices they stand, and of which handles they
-- are. Document 01, Watching, by history. Assumes nothing.
use Rattle.std.specs.Prelude.{◌≡◌, ℕ, ◌<◌, ◌≤◌, List, length, slice_index_or}
use Rattle.octets.specs.Little.{value}
use Rattle.model.specs.Types.{Packet, Pair, watched}
use Rattle.steps.specs.Typed.{Sent}
use Rattle.packets.specs.Keys.{device_number}
use Rattle.packets.specs.Writes.{no_pair}

-- the packet's fields are in range, and that is the number of its device
pub record Sender (p : Packet) (dev : ℕ) : Type 0 where
  pub sent : Sent p
  pub number : dev ≡ device_number p

-- a pair of another device; none of the packet's below an index, none from one on; the indices between which they stand
abbrev pub Other : Packet → Pair → Type 0
Other p q = value (watched q) ≡ device_number p → ⊥

abbrev pub NoneBelow : List Pair → Packet → ℕ → Type 0
NoneBelow qs p i = (j : ℕ) → j < i → Other p (slice_index_or qs j no_pair)

abbrev pub NoneFrom : List Pair → Packet → ℕ → Type 0
NoneFrom qs p i = (j : ℕ) → i ≤ j → j < length qs → Other p (slice_index_or qs j no_pair)

pub record Spans (qs : List Pair) (p : Packet) (from to : ℕ) : Type 0 where
  pub most : to ≤ length qs
  pub below : NoneBelow qs p from
  pub behind : NoneFrom qs p to
