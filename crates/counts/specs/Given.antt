-- What the loops of a counted packet are given, with every monitor asked, and the search for the pair of a handle.
-- Document 01, Watching, by history; document 02, T-09. Assumes nothing.
use Rattle.std.specs.Prelude.{ℕ, ◌≡◌, List}
use Rattle.model.specs.Types.{Monitor, Packet}
use Rattle.steps.specs.Typed.{Sent}
use Rattle.marks.specs.Marks.{marks}
use Rattle.packets.specs.Keys.{device_number}

-- the packet's fields in range, the octets of all handles, the number of its device
pub record Given (mons : List (ℕ × Monitor)) (p : Packet) (acts : List ℕ) (dev : ℕ) : Type 0 where
  pub sent : Sent p
  pub octets : acts ≡ marks mons p
  pub number : dev ≡ device_number p
