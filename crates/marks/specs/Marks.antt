-- What a packet does for each monitor, told by one octet a handle: what the loops over pairs and handles read in
-- place of the monitors. Document 01, Watching, by history. Assumes nothing.
use Rattle.std.specs.Prelude.{ℕ, ◌+◌, ◌*◌, ◌/◌, ◌%◌, Bool, true, false, ◌&&◌, List, [], ◌∷◌, leb, eqb, drop}
use Rattle.std.proofs.Math.Option.{Option, none, some}
use Rattle.laws.specs.Tests.{pick}
use Rattle.laws.specs.Loops.{up_to}
use Rattle.laws.specs.Rows.{row}
use Rattle.rule.specs.Engine.{find}
use Rattle.model.specs.Types.{Monitor, Packet}
use Rattle.model.specs.Monitors.{allows, matches, good, sifts, strong, windowed}
use Rattle.model.specs.Image.{monitor_in}
use Rattle.model.specs.Block.{in_use}
use Rattle.model.specs.Layout.{monitor_size, monitors_at, most_monitors}

-- what the octet of a packet that matches has beside its tests
abbrev pub matched : ℕ
matched = 64

-- a test as a number
unfoldable pub flag : Bool → ℕ
flag true = 1
flag false = 0

-- What an octet says of the packet: the count of ticks since a good packet starts anew, the window takes the packet,
-- the packet may start a watch, it is reported at once where the pair is under watch, duplicates are filtered (T-13),
-- the report filtering lets it through (T-13), and it matches, so that its RSSI is kept (T-05).
unfoldable pub refreshes : ℕ → Bool
refreshes a = eqb (a % 2) 1

unfoldable pub takes : ℕ → Bool
takes a = eqb (a / 2 % 2) 1

unfoldable pub opens : ℕ → Bool
opens a = eqb (a / 4 % 2) 1

unfoldable pub tells : ℕ → Bool
tells a = eqb (a / 8 % 2) 1

unfoldable pub sifted : ℕ → Bool
sifted a = eqb (a / 16 % 2) 1

unfoldable pub allowed : ℕ → Bool
allowed a = eqb (a / 32 % 2) 1

unfoldable pub keeps : ℕ → Bool
keeps a = leb matched a

unfoldable pub bits : Bool → Bool → Bool → Bool → Bool → Bool → ℕ
bits a b c d e f = flag a + 2 * flag b + 4 * flag c + 8 * flag d + 16 * flag e + 32 * flag f + matched

-- a packet is reported at once: sampling 0, and the report filtering lets it through
unfoldable pub instant : Monitor → Packet → Bool
instant m p = eqb m.sampling 0 && allows m p.event

-- the octet of a packet that matches: good, sampling from 0x01 to 0xFE, RSSI at least high, reported at once,
-- duplicates filtered, let through
unfoldable pub mark_of : Monitor → Packet → ℕ
mark_of m p = pick (matches m p)
    (bits (good m p) (windowed m) (strong m p) (instant m p) (sifts m) (allows m p.event)) 0

-- the octet of a handle: 0 where it has no monitor or the packet does not match
unfoldable pub mark : Option Monitor → Packet → ℕ
mark none p = 0
mark (some m) p = mark_of m p

-- the octet of a monitor's row, and those of all 16 rows of a block
unfoldable pub mark_row : List ℕ → Packet → ℕ
mark_row r p = pick (in_use r) (mark_of (monitor_in r).1 p) 0

unfoldable pub marks_at : List ℕ → Packet → List ℕ
marks_at s p = up_to (λ h. mark_row (row monitor_size h (drop monitors_at s)) p ∷ []) most_monitors

-- the octets of the handles 0 to 15
unfoldable pub marks : List (ℕ × Monitor) → Packet → List ℕ
marks mons p = up_to (λ h. mark (find mons h) p ∷ []) most_monitors
