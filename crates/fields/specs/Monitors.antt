-- A monitor in words (docs/FORMATS.md, What `show` writes: add a monitor, condition). Definitions alone.
use Rattle.std.specs.Prelude.{ℕ, ◌+◌, ◌*◌, ◌/◌, ◌%◌, Bool, ◌&&◌, ◌||◌, List, [], ◌++◌, leb, ltb, eqb, length, drop}
use Rattle.laws.specs.Tests.{pick}
use Rattle.octets.specs.Numbers.{number_at}
use Rattle.decimals.specs.Decimals.{decimal}
use Rattle.lines.specs.Hex.{hex_of}
use Rattle.model.specs.Quoted.{codes}
use Rattle.texts.specs.Words.{pair_of}
use Rattle.words.specs.Pieces.{part_of, number_text, dbm, device_of, device_text}
use Rattle.words.specs.Uuids.{uuid_text}
use Rattle.fields.specs.Names.{ad_text}
use Rattle.fields.specs.Cuts.{all_of}
use Rattle.fields.specs.Data.{size_of, is_whole, plain_text}

-- a pattern: AD type, start byte, octets; or octets that are none
unfoldable pub pattern_text : List ℕ → List ℕ
pattern_text piece =
    pick (is_whole piece 3)
    ((codes ", " ++ ad_text (number_at 1 piece 1)) ++ (codes " at " ++ decimal (number_at 1 piece 2))
    ++ (codes " " ++ hex_of (drop 3 piece)))
    (codes ", no pattern " ++ hex_of piece)

unfoldable pub patterns_text : List ℕ → List ℕ
patterns_text s = all_of size_of pattern_text s

-- a condition that is of no known form
unfoldable pub unknown_text : ℕ → List ℕ → List ℕ
unknown_text kind s = (codes ", condition of type " ++ decimal kind) ++ plain_text s

-- whether a UUID condition has the octets that its UUID type says
unfoldable pub is_uuid : List ℕ → Bool
is_uuid s =
    ((eqb (number_at 1 s 0) 1 && eqb (length s) 3) || (eqb (number_at 1 s 0) 2 && eqb (length s) 5))
    || (eqb (number_at 1 s 0) 3 && eqb (length s) 17)

-- a condition of one of the types 2 to 4
unfoldable pub single_text : ℕ → List ℕ → List ℕ
single_text kind s =
    pick (eqb kind 2 && is_uuid s) (codes ", UUID " ++ uuid_text (drop 1 s))
    (pick (eqb kind 3 && eqb (length s) 16) (codes ", IRK 0x" ++ number_text s) (
    pick ((eqb kind 4 && eqb (length s) 7) && leb (number_at 1 s 0) 1) (codes ", address " ++ device_text (device_of s))
    (unknown_text kind s)))

-- a condition: of type 1 the count of its patterns, and they
unfoldable pub condition_text : ℕ → List ℕ → List ℕ
condition_text kind s =
    pick (eqb kind 1 && ltb 0 (length s))
    ((codes ", patterns " ++ decimal (number_at 1 s 0)) ++ patterns_text (drop 1 s)) (single_text kind s)

-- a sampling period
unfoldable pub sampling_text : ℕ → List ℕ
sampling_text x =
    pick (eqb x 0) (codes ", sampling every packet")
    (pick (eqb x 255) (codes ", sampling none") ((codes ", sampling " ++ decimal (100 * x)) ++ codes " ms"))

-- high, low, interval, sampling period
unfoldable pub limits_text : List ℕ → List ℕ
limits_text s =
    (codes " high " ++ dbm (number_at 1 s 0)) ++ (codes ", low " ++ dbm (number_at 1 s 1))
    ++ (codes ", interval " ++ decimal (number_at 1 s 2))
    ++ codes " s" ++ sampling_text (number_at 1 s 3)

-- a bit by its word, where it is set
unfoldable pub bit_text : ℕ → ℕ → List ℕ → List ℕ
bit_text x k words = pick (eqb (x / k % 2) 1) words []

-- reserved bits as a number, where one is set
unfoldable pub reserved_text : ℕ → List ℕ
reserved_text x = pick (eqb x 0) [] (codes " reserved 0x" ++ pair_of x)

-- Monitor_options (source document 000): whose packets are watched. Bits 0 and 1: those of the peer's address, or of
-- an address that its IRK resolves, that meet the condition; 2 and 3: directed ones of these; 4: every directed one;
-- 5: those of any address that meet the condition
unfoldable pub options_text : ℕ → List ℕ
options_text x =
    pick (eqb x 0) (codes " none") (
    bit_text x 1 (codes " peer-address") ++ bit_text x 2 (codes " peer-IRK")
    ++ bit_text x 4 (codes " directed-peer-address") ++ bit_text x 8 (codes " directed-peer-IRK")
    ++ bit_text x 16 (codes " directed") ++ bit_text x 32 (codes " any-address") ++ reserved_text (x / 64 * 64))

-- Advertisement_report_filtering_options: no duplicates; reports of legacy, of extended, of directed packets
unfoldable pub filtering_text : ℕ → List ℕ
filtering_text x =
    pick (eqb x 0) (codes " none") (
    bit_text x 1 (codes " no-duplicates") ++ bit_text x 2 (codes " legacy") ++ bit_text x 4 (codes " extended")
    ++ bit_text x 8 (codes " directed")
    ++ reserved_text (x / 16 * 16))

-- the peer: its address type behind its address
unfoldable pub peer_of : List ℕ → ℕ
peer_of s = number_at 1 s 8 + 256 * (number_at 4 s 2 + 4294967296 * number_at 2 s 6)

-- options, report filter, peer address, peer address type, peer IRK
unfoldable pub peer_text : List ℕ → List ℕ
peer_text s =
    codes ", options" ++ options_text (number_at 1 s 0) ++ codes ", report filter" ++ filtering_text (number_at 1 s 1)
    ++ (codes ", peer " ++ device_text (peer_of s)) ++ (codes ", peer IRK 0x" ++ number_text (part_of s 9 16))
