-- What a typed frame is made of: the octets of a command, the fields of a packet. Document 01, Lines and Refusal
-- numbers (5). Assumes nothing.
use Rattle.std.specs.Prelude.{◌≤◌, ◌<◌, ◌≡◌, true, length}
use Rattle.laws.specs.Loops.{every}
use Rattle.octets.specs.Little.{is_octet}
use Rattle.model.specs.Types.{Packet, scan_text}
use Rattle.model.specs.Level.{in_range}
use Rattle.model.specs.Layout.{most_data}

-- Lines, 02: "event type 0 to 3, address type 0 or 1, address (6), data length n (at most 31), n octets, RSSI"; the
-- scan response of kind 04 (T-06)
pub record Sent (p : Packet) : Type 0 where
  pub event-most : p.event ≤ 3
  pub kind-most : p.address_type ≤ 1
  pub address-six : length p.address ≡ 6
  pub address-octets : every is_octet p.address ≡ true
  pub adv-short : length p.adv ≤ most_data
  pub adv-octets : every is_octet p.adv ≡ true
  pub scan-short : length (scan_text p.scan) ≤ most_data
  pub scan-octets : every is_octet (scan_text p.scan) ≡ true
  pub rssi-octet : p.rssi < 256
  pub rssi-in : in_range p.rssi ≡ true
