-- The octets of every answer, event and report. Document 01, Commands and Watching, by history (Event, Report).
use Rattle.std.specs.Prelude.{ℕ, ◌+◌, List, [], ◌∷◌, ◌++◌, length}
use Rattle.std.proofs.Math.Option.{Option, none, some}
use Rattle.octets.specs.Little.{octets_of}
use Rattle.model.specs.Types.{Model, Packet, Pair}
use Rattle.model.specs.Level.{mean}

-- "Command Complete, 0x0E, length, 0x01, opcode (2), return parameters"
unfoldable pub complete : ℕ → List ℕ → List ℕ
complete opcode ret = 0x0E ∷ (3 + length ret) ∷ 0x01 ∷ (octets_of 2 opcode ++ ret)

-- "Event: 0xFF, length, prefix, 0x02, address type, address, handle, 1 or 0"
unfoldable pub event : List ℕ → Pair → ℕ → List ℕ
event prefix q state =
    0xFF ∷ (10 + length prefix) ∷ (prefix ++ (0x02 ∷ q.address_type ∷ (q.address ++ (q.handle ∷ state ∷ []))))

unfoldable pub start_event : List ℕ → Pair → List ℕ
start_event prefix q = event prefix q 1

unfoldable pub stop_event : List ℕ → Pair → List ℕ
stop_event prefix q = event prefix q 0

-- "Report: 0x3E, 12 + n, 0x02, 0x01, event type, address type, address, n, data, RSSI"
unfoldable pub report : ℕ → ℕ → List ℕ → List ℕ → ℕ → List ℕ
report event kind address adv rssi =
    0x3E ∷ (12 + length adv) ∷ 0x02 ∷ 0x01 ∷ event ∷ kind ∷ (address ++ (length adv ∷ (adv ++ (rssi ∷ []))))

-- "one report with the packet's RSSI"
unfoldable pub packet_report : Packet → List ℕ
packet_report p = report p.event p.address_type p.address p.adv p.rssi

-- document 02, T-06: "a second report of event type 4 with the scan response follows", empty or not, with the
-- packet's RSSI
unfoldable pub scan_report : Packet → Option (List ℕ) → List ℕ
scan_report p none = []
scan_report p (some l) = report 4 p.address_type p.address l p.rssi

-- what is written where a packet is reported at once
unfoldable pub packet_reports : Packet → List ℕ
packet_reports p = packet_report p ++ scan_report p p.scan

-- "one report: the latest of them, with RSSI the greatest whole number not above sum / count"
unfoldable pub window_report : Pair → List ℕ
window_report q = report q.event q.address_type q.address q.adv (mean q.sum q.packets)
