-- Whether the options of a handle's monitor admit a packet's device (document 02, T-13): Monitor_options, the peer's
-- address and its key, read from the row in the block. Assumes nothing.
use Rattle.std.specs.Prelude.{ℕ, Bool, ◌&&◌, List}
use Rattle.laws.specs.Tests.{sames}
use Rattle.advert.specs.Irk.{irk_meets}
use Rattle.model.specs.Types.{Packet, device_of}
use Rattle.model.specs.Monitors.{has_bit, irk, options, peer}

-- bit 0: the packet's device is the peer; bit 1: the peer's key resolves its address
unfoldable pub peer_meets : List ℕ → Packet → Bool
peer_meets a p = has_bit 1 (options a) && sames (peer a) (device_of p)

unfoldable pub key_meets : List ℕ → Packet → Bool
key_meets a p = has_bit 2 (options a) && irk_meets (irk a) p.address_type p.address
