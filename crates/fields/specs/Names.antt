-- Names of numbers: AD types, event types, statuses, sub-opcodes, reasons. Definitions alone.
use Rattle.std.specs.Prelude.{ℕ, List, [], ◌∷◌, ◌++◌, eqb, length}
use Rattle.laws.specs.Tests.{pick}
use Rattle.lines.specs.Hex.{hex_of}
use Rattle.model.specs.Quoted.{codes}
use Rattle.names.specs.Names.{Row, named}
use Rattle.words.specs.Pieces.{named_or}
use Rattle.fields.specs.declared.terms.Fault.{Fault}
use Rattle.fields.specs.declared.terms.Fault.TheVariants.{Empty, Long, NoDigits, NoKind, ShortFrame, NoFrame, NoForm}

-- AD types (Assigned Numbers of the Bluetooth SIG)
unfoldable pub ad_rows : List Row
ad_rows =
    record { number = 1; name = "flags" }
    ∷ record { number = 2; name = "incomplete 16-bit UUIDs" }
    ∷ record { number = 3; name = "complete 16-bit UUIDs" }
    ∷ record { number = 4; name = "incomplete 32-bit UUIDs" }
    ∷ record { number = 5; name = "complete 32-bit UUIDs" }
    ∷ record { number = 6; name = "incomplete 128-bit UUIDs" }
    ∷ record { number = 7; name = "complete 128-bit UUIDs" }
    ∷ record { number = 8; name = "shortened name" }
    ∷ record { number = 9; name = "complete name" }
    ∷ record { number = 10; name = "Tx power" }
    ∷ record { number = 13; name = "class of device" }
    ∷ record { number = 16; name = "device id" }
    ∷ record { number = 18; name = "connection interval range" }
    ∷ record { number = 20; name = "solicited 16-bit UUIDs" }
    ∷ record { number = 21; name = "solicited 128-bit UUIDs" }
    ∷ record { number = 22; name = "service data" }
    ∷ record { number = 23; name = "public target address" }
    ∷ record { number = 24; name = "random target address" }
    ∷ record { number = 25; name = "appearance" }
    ∷ record { number = 26; name = "advertising interval" }
    ∷ record { number = 27; name = "device address" }
    ∷ record { number = 28; name = "LE role" }
    ∷ record { number = 31; name = "solicited 32-bit UUIDs" }
    ∷ record { number = 32; name = "service data" }
    ∷ record { number = 33; name = "service data" }
    ∷ record { number = 36; name = "URI" }
    ∷ record { number = 39; name = "LE features" }
    ∷ record { number = 255; name = "manufacturer data" }
    ∷ []

unfoldable pub ad_text : ℕ → List ℕ
ad_text x = named_or ad_rows "AD type 0x" x

-- event types (Core Specification)
unfoldable pub event_rows : List Row
event_rows =
    record { number = 0; name = "ADV_IND" }
    ∷ record { number = 1; name = "ADV_DIRECT_IND" }
    ∷ record { number = 2; name = "ADV_SCAN_IND" }
    ∷ record { number = 3; name = "ADV_NONCONN_IND" }
    ∷ record { number = 4; name = "SCAN_RSP" }
    ∷ []

unfoldable pub event_text : ℕ → List ℕ
event_text x = named_or event_rows "event type 0x" x

-- statuses
unfoldable pub status_rows : List Row
status_rows =
    record { number = 0; name = "success" }
    ∷ record { number = 1; name = "unknown command" }
    ∷ record { number = 7; name = "no room" }
    ∷ record { number = 12; name = "disallowed" }
    ∷ record { number = 18; name = "invalid parameters" }
    ∷ []

unfoldable pub status_text : ℕ → List ℕ
status_text x = named_or status_rows "status 0x" x

-- sub-opcodes as their commands
unfoldable pub sub_rows : List Row
sub_rows =
    record { number = 0; name = "read features" }
    ∷ record { number = 3; name = "add a monitor" }
    ∷ record { number = 4; name = "cancel a monitor" }
    ∷ record { number = 5; name = "enable filter" }
    ∷ record { number = 15; name = "add a monitor, version 2" }
    ∷ []

unfoldable pub sub_text : ℕ → List ℕ
sub_text x = named_or sub_rows "sub-opcode 0x" x

-- why a line is none
unfoldable pub why_text : Fault → List ℕ
why_text Empty = codes "empty"
why_text Long = codes "too long"
why_text NoDigits = codes "not upper-case hexadecimal"
why_text NoKind = codes "no known kind"
why_text ShortFrame = codes "under 5 octets"
why_text NoFrame = codes "payload not of its kind's form"
why_text NoForm = codes "not of its kind's form"

-- whether the filter is on; a start or a stop
unfoldable pub switch_text : ℕ → List ℕ
switch_text x = pick (eqb x 0) (codes "off") (codes "on")

unfoldable pub change_word : ℕ → List ℕ
change_word x = pick (eqb x 0) (codes "stop:") (codes "start:")

-- the prefix of events
unfoldable pub prefix_text : List ℕ → List ℕ
prefix_text s = pick (eqb (length s) 0) (codes ", no prefix") (codes ", prefix " ++ hex_of s)
