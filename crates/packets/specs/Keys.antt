-- Devices and keys as numbers: a pair's key, handle, address type and address, is one number of 8 octets, and a
-- device one of 7, so that a test of a row is one comparison. Document 01, The image (A3), Watching, by history.
-- Assumes nothing.
use Rattle.std.specs.Prelude.{ℕ}
use Rattle.octets.specs.Little.{value}
use Rattle.model.specs.Types.{Packet, device_of}

-- the number of a packet's device
unfoldable pub device_number : Packet → ℕ
device_number p = value (device_of p)
