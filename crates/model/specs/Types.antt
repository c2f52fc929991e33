-- The records of the model: a monitor's settings, a packet, a pair under watch, and the state with its lists.
-- Document 01: Sizes of the gateway, Lines, The image. Octets are kept as sent; RSSI is compared in dBm (Level).
use Rattle.std.specs.Prelude.{ℕ, ◌+◌, ◌*◌, List, [], ◌∷◌}
use Rattle.std.proofs.Math.Option.{Option, none, some}

-- "Seconds of the low interval and ticks of 100 ms are two units; 1 second is 10 ticks."
unfoldable pub ticks_of : ℕ → ℕ
ticks_of seconds = 10 * seconds

-- Commands, 03: what a monitor was added with. `high` and `low` are RSSI octets, `interval` is in
-- seconds. `extra` are the parameters that version 2 adds (document 02, T-13), 25 octets in the order of
-- 000's command row; version 1 has none.
pub record Monitor : Type 0 where
  pub high : ℕ
  pub low : ℕ
  pub interval : ℕ
  pub sampling : ℕ
  pub condition_type : ℕ
  pub condition : List ℕ
  pub extra : Option (List ℕ)

-- Lines, 02: an advertisement. `adv` is the data; `scan` is the scan response of a packet of kind 04 (document 02,
-- T-06), which may be empty.
pub record Packet : Type 0 where
  pub event : ℕ
  pub address_type : ℕ
  pub address : List ℕ
  pub adv : List ℕ
  pub scan : Option (List ℕ)
  pub rssi : ℕ

-- The image, A3: a pair of a monitor (its handle) and a device (address type and address) under watch.
-- `since_good` are the ticks since a good packet; `ticks`, `packets`, `sum` (two's complement in 8 octets), `event` and
-- `adv` are the window's: ticks in it, packets in it, the sum of their RSSI, and event type and data of the latest of
-- them. `kept` is the RSSI octet of the latest packet that matched, the start's included (document 02, T-05). For a
-- monitor that filters duplicates, which has no windows, `event` and `adv` are those of the last packet that was a
-- reason for a report; 0xFF and none while there is none (T-13).
pub record Pair : Type 0 where
  pub handle : ℕ
  pub address_type : ℕ
  pub address : List ℕ
  pub since_good : ℕ
  pub ticks : ℕ
  pub packets : ℕ
  pub sum : ℕ
  pub kept : ℕ
  pub event : ℕ
  pub adv : List ℕ

-- The state: A0's fields, the monitors by handle, the pairs in start order.
pub record Model : Type 0 where
  pub position : ℕ
  pub filter : ℕ
  pub opcode : ℕ
  pub prefix : List ℕ
  pub mons : List (ℕ × Monitor)
  pub pairs : List Pair

-- Watching, by history: "a device (type and address)".
unfoldable pub device : ℕ → List ℕ → List ℕ
device address_type address = address_type ∷ address

unfoldable pub device_of : Packet → List ℕ
device_of p = device p.address_type p.address

unfoldable pub watched : Pair → List ℕ
watched q = device q.address_type q.address

-- a packet's scan response as a text: empty where it has none
unfoldable pub scan_text : Option (List ℕ) → List ℕ
scan_text none = []
scan_text (some l) = l

-- The state with other monitors and pairs, with another filter, one frame further.
unfoldable pub with_lists : Model → List (ℕ × Monitor) → List Pair → Model
with_lists m mons pairs =
    record {
      position = m.position;
      filter = m.filter;
      opcode = m.opcode;
      prefix = m.prefix;
      mons = mons;
      pairs = pairs;
    }

unfoldable pub with_filter : Model → ℕ → Model
with_filter m on =
    record {
      position = m.position;
      filter = on;
      opcode = m.opcode;
      prefix = m.prefix;
      mons = m.mons;
      pairs = m.pairs;
    }

unfoldable pub moved : Model → Model
moved m =
    record {
      position = m.position + 1;
      filter = m.filter;
      opcode = m.opcode;
      prefix = m.prefix;
      mons = m.mons;
      pairs = m.pairs;
    }

-- "A fresh state: position 0, filter off (000), no monitors."
unfoldable pub fresh : ℕ → List ℕ → Model
fresh opcode prefix = record { position = 0; filter = 0; opcode = opcode; prefix = prefix; mons = []; pairs = [] }

-- Refusal numbers: "the blank state: fresh, opcode 0xFC00, empty prefix".
unfoldable pub blank : Model
blank = fresh 0xFC00 []
