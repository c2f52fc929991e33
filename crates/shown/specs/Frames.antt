-- Frames, events and reports in words (docs/FORMATS.md, What `show` writes: packet, tick, start, stop, report).
-- Definitions alone.
use Rattle.std.specs.Prelude.{ℕ, ◌+◌, ◌-◌, Bool, false, ◌&&◌, List, [], ◌++◌, leb, ltb, eqb, length, drop}
use Rattle.laws.specs.Tests.{pick}
use Rattle.octets.specs.Numbers.{number_at}
use Rattle.decimals.specs.Decimals.{decimal}
use Rattle.model.specs.Quoted.{codes}
use Rattle.words.specs.Pieces.{part_of, dbm, device_of, device_text}
use Rattle.fields.specs.Names.{event_text, change_word, prefix_text}
use Rattle.fields.specs.Data.{structures_text}
use Rattle.model.specs.Frames.{is_command, is_packet, is_scanned}
use Rattle.model.specs.Level.{in_range}
use Rattle.shown.specs.Commands.{command_text}

-- event type, address and level of a packet; the level is its last octet
unfoldable pub heard_text : List ℕ → List ℕ
heard_text s =
    codes ": " ++ event_text (number_at 1 s 0) ++ (codes ", " ++ device_text (device_of (drop 1 s)))
    ++ (codes ", RSSI " ++ dbm (number_at 1 s (length s - 1)))

-- a packet: event type, address type, address, n, data, RSSI
unfoldable pub packet_text : List ℕ → List ℕ
packet_text s = heard_text s ++ structures_text (part_of s 9 (number_at 1 s 8))

-- one with its scan response
unfoldable pub scanned_text : List ℕ → List ℕ
scanned_text s =
    packet_text s ++ codes "; scan response"
    ++ structures_text (part_of s (9 + number_at 1 s 8 + 1) (number_at 1 s (9 + number_at 1 s 8)))

-- a frame: kind, number, payload
unfoldable pub frame_text : List ℕ → List ℕ
frame_text s =
    pick (eqb (number_at 1 s 0) 1) ((codes "command " ++ decimal (number_at 4 s 1)) ++ command_text (drop 5 s)) (
    pick (eqb (number_at 1 s 0) 2) ((codes "packet " ++ decimal (number_at 4 s 1)) ++ packet_text (drop 5 s)) (
    pick (eqb (number_at 1 s 0) 4) ((codes "packet " ++ decimal (number_at 4 s 1)) ++ scanned_text (drop 5 s)) (
    codes "tick " ++ decimal (number_at 4 s 1))))

-- whether its payload has its kind's form
unfoldable pub is_frame : List ℕ → Bool
is_frame s =
    pick (eqb (number_at 1 s 0) 1) (is_command (drop 5 s)) (pick (eqb (number_at 1 s 0) 2) (is_packet (drop 5 s)) (
    pick (eqb (number_at 1 s 0) 4) (is_scanned (drop 5 s)) (eqb (length (drop 5 s)) 0)))

-- a start or a stop: prefix, 2, address type, address, handle, which
unfoldable pub change_text : List ℕ → List ℕ
change_text s =
    pick (ltb (length s) 12) []
    (change_word (number_at 1 s (length s - 1)) ++ (codes " " ++ device_text (device_of (drop (length s - 9) s)))
    ++ (codes ", monitor " ++ decimal (number_at 1 s (length s - 2))) ++ prefix_text (part_of s 2 (length s - 12)))

-- whether an event is one
unfoldable pub is_change : List ℕ → Bool
is_change s =
    pick (ltb (length s) 12) false
    (pick (ltb 44 (length s)) false ((eqb (number_at 1 s 1) (length s - 2) && eqb (number_at 1 s (length s - 10)) 2)
    && (leb (number_at 1 s (length s - 9)) 1 && leb (number_at 1 s (length s - 1)) 1)))

-- an advertising report
unfoldable pub report_text : List ℕ → List ℕ
report_text s = codes "report" ++ packet_text (drop 4 s)

-- whether an event is one: of one packet, as long as its lengths say, its fields in range
unfoldable pub is_report : List ℕ → Bool
is_report s =
    pick (ltb (length s) 14) false ((((eqb (number_at 1 s 1) (length s - 2) && eqb (length s - 14) (number_at 1 s 12))
    && (eqb (number_at 1 s 2) 2 && eqb (number_at 1 s 3) 1))
    && ((leb (number_at 1 s 4) 4 && leb (number_at 1 s 5) 1) && leb (number_at 1 s 12) 31))
    && in_range (number_at 1 s (length s - 1)))
