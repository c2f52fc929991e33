-- A handle's octet, read from its monitor's row in the block. Document 01, Conditions, Watching, by history. Assumes
-- nothing.
use Rattle.std.specs.Prelude.{ℕ, ◌≡◌, true, ◌&&◌, List, leb, eqb, drop}
use Rattle.std.specs.Int.Signed.{le_z, lt_z}
use Rattle.laws.specs.Tests.{pick}
use Rattle.laws.specs.Rows.{row}
use Rattle.model.specs.Level.{d_bm}
use Rattle.model.specs.Types.{Monitor, Packet}
use Rattle.model.specs.Monitors.{allows, has_bit, lets_through, meets_condition, good, sifts, strong, windowed}
use Rattle.model.specs.Image.{monitor_in}
use Rattle.model.specs.Block.{in_use}
use Rattle.marks.specs.Marks.{flag, bits, instant}
use Rattle.model.specs.Layout.{monitor_size, monitors_at}

-- the octet of a packet that matches, from the octets of the monitor's row and the packet's RSSI
unfoldable pub row_bits : ℕ → ℕ → ℕ → ℕ → ℕ → ℕ → ℕ
row_bits high low sampling rssi filter event =
    bits (lt_z (d_bm low) (d_bm rssi)) (leb 1 sampling && leb sampling 254) (le_z (d_bm high) (d_bm rssi))
    (eqb sampling 0 && lets_through filter event) (has_bit 1 filter) (lets_through filter event)

-- 1 where a row is in use and the packet meets its monitor's condition, else 0
unfoldable pub met_row : List ℕ → Packet → ℕ
met_row r p = flag (in_use r && meets_condition (monitor_in r).1 p)

-- the octet of a packet that matches, from the row's octets
unfoldable pub full_bits : Monitor → Packet → ℕ
full_bits m p = bits (good m p) (windowed m) (strong m p) (instant m p) (sifts m) (allows m p.event)

-- the octet of a row by its condition alone; its options are asked behind it
unfoldable pub met_mark : List ℕ → Packet → ℕ
met_mark r p = pick (in_use r && meets_condition (monitor_in r).1 p) (full_bits (monitor_in r).1 p) 0

-- two rows, the first in use, with one type and one condition
pub record Alike (s : List ℕ) (j h : ℕ) : Type 0 where
  pub used : in_use (row monitor_size j (drop monitors_at s)) ≡ true
  pub kinds : (monitor_in (row monitor_size j (drop monitors_at s))).1.condition_type
      ≡ (monitor_in (row monitor_size h (drop monitors_at s))).1.condition_type
  pub conditions : (monitor_in (row monitor_size j (drop monitors_at s))).1.condition
      ≡ (monitor_in (row monitor_size h (drop monitors_at s))).1.condition
