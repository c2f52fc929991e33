-- The octets of a window that takes a packet, and the writes that make them. Document 01, Watching, by history, The
-- image (A3). Assumes nothing.
use Rattle.std.specs.Prelude.{ℕ, ◌+◌, List}
use Rattle.octets.specs.Little.{little}
use Rattle.model.specs.Types.{Packet}
use Rattle.model.specs.Level.{add_rssi}
use Rattle.blocks.specs.Fields.{window_of}

-- the window that stands in s at an index, with the packet
unfoldable pub taken_by : Packet → List ℕ → ℕ → List ℕ
taken_by p s at = window_of (little 4 s at + 1) (add_rssi (little 8 s (at + 4)) p.rssi) p.rssi p.event p.adv
