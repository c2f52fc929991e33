-- The octets of an event and of a report, from the octets of a pair's row and of a packet, and that they are the
-- model's.
-- Document 01, Watching, by history (Event, Report). Assumes nothing.
use Rattle.std.specs.Prelude.{ℕ, ◌+◌, Bool, ◌&&◌, List, [], ◌∷◌, ◌++◌, leb, eqb, length, take, drop, get_or}
use Rattle.model.specs.Events.{event}
use Rattle.model.specs.Layout.{most_data, most_prefix}

-- "Event: 0xFF, length, prefix, 0x02, address type, address, handle, 1 or 0". A row opens with handle, address type
-- and address.
unfoldable pub event_octets : List ℕ → List ℕ → ℕ → List ℕ
event_octets prefix row state =
    0xFF ∷ (10 + length prefix) ∷ (prefix ++ (0x02 ∷ (take 7 (drop 1 row) ++ (get_or row 0 0 ∷ state ∷ []))))

-- "Report: 0x3E, 12 + n, 0x02, 0x01, event type, address type, address, n, data, RSSI". A device is address type and
-- address.
unfoldable pub report_octets : ℕ → List ℕ → List ℕ → ℕ → List ℕ
report_octets event device adv rssi =
    0x3E ∷ (12 + length adv) ∷ 0x02 ∷ 0x01 ∷ event ∷ (device ++ (length adv ∷ (adv ++ (rssi ∷ []))))

-- whether an event is written into n octets at an index: prefix of at most 32 octets, a row of at least 8, room for
-- all of it
unfoldable pub event_fits : ℕ → ℕ → List ℕ → List ℕ → ℕ → Bool
event_fits n at prefix row state =
    leb (length prefix) most_prefix && (leb 8 (length row) && leb (at + length (event_octets prefix row state)) n)

-- whether a report is written into n octets at an index: a device of 7 octets, data of at most 31, room for all of it
unfoldable pub report_fits : ℕ → ℕ → ℕ → List ℕ → List ℕ → ℕ → Bool
report_fits n at event device adv rssi =
    eqb (length device) 7 && (leb (length adv) most_data && leb (at + length (report_octets event device adv rssi)) n)
