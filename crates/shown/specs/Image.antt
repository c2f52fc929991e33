-- The lines of an image in words (docs/FORMATS.md, What `show` writes: A0 to AF). Definitions alone.
use Rattle.std.specs.Prelude.{ℕ, ◌+◌, Bool, ◌||◌, List, [], ◌++◌, eqb, length, drop}
use Rattle.laws.specs.Tests.{pick}
use Rattle.octets.specs.Numbers.{number_at}
use Rattle.decimals.specs.Decimals.{decimal}
use Rattle.model.specs.Quoted.{codes}
use Rattle.words.specs.Pieces.{part_of, number_text, dbm, sum_text, device_of, device_text}
use Rattle.fields.specs.Names.{event_text, switch_text, prefix_text}
use Rattle.fields.specs.Data.{structures_text}
use Rattle.fields.specs.Monitors.{condition_text, limits_text, peer_text}

-- the head: position, filter, opcode, prefix
unfoldable pub head_text : List ℕ → List ℕ
head_text s =
    (codes "image: position " ++ decimal (number_at 4 s 1)) ++ codes ", filter " ++ switch_text (number_at 1 s 5)
    ++ (codes ", opcode 0x" ++ number_text (part_of s 6 2)) ++ prefix_text (drop 9 s)

-- an edition of the prefix
unfoldable pub edition_text : List ℕ → List ℕ
edition_text s = (codes "edition from frame " ++ decimal (number_at 4 s 1)) ++ prefix_text (drop 6 s)

-- what version 2 adds behind the condition
unfoldable pub added_text : List ℕ → List ℕ
added_text s = pick (eqb (number_at 1 s 0) 165) (peer_text (part_of s (8 + number_at 1 s 7) 25)) []

-- a monitor of either version
unfoldable pub monitor_text : List ℕ → List ℕ
monitor_text s =
    (codes "monitor " ++ decimal (number_at 1 s 1)) ++ codes ":" ++ limits_text (drop 2 s)
    ++ condition_text (number_at 1 s 6) (part_of s 8 (number_at 1 s 7))
    ++ added_text s

-- a pair under watch: what it counts, then the packet that it keeps
unfoldable pub counts_text : List ℕ → List ℕ
counts_text s =
    (codes ", ticks since good " ++ decimal (number_at 2 s 9)) ++ (codes ", window ticks " ++ decimal (number_at 1 s 11))
    ++ (codes ", packets " ++ decimal (number_at 4 s 12)) ++ (codes ", RSSI sum " ++ sum_text (number_at 8 s 16))

unfoldable pub pair_text : List ℕ → List ℕ
pair_text s =
    (codes "pair: monitor " ++ decimal (number_at 1 s 1)) ++ (codes ", " ++ device_text (device_of (drop 2 s)))
    ++ counts_text s
    ++ (codes ", last RSSI " ++ dbm (number_at 1 s 24)) ++ codes ", " ++ event_text (number_at 1 s 25)
    ++ structures_text (drop 27 s)

-- the end: how many monitors and pairs
unfoldable pub end_text : List ℕ → List ℕ
end_text s = (codes "end: monitors " ++ decimal (number_at 1 s 1)) ++ (codes ", pairs " ++ decimal (number_at 1 s 2))

-- a line of an image, by its first octet
unfoldable pub image_text : List ℕ → List ℕ
image_text s =
    pick (eqb (number_at 1 s 0) 160) (head_text s)
    (pick (eqb (number_at 1 s 0) 164) (edition_text s) (pick (eqb (number_at 1 s 0) 163) (pair_text s) (
    pick (eqb (number_at 1 s 0) 175) (end_text s) (monitor_text s))))

-- how many octets it has, by its octet that says a length
unfoldable pub image_size : List ℕ → ℕ
image_size s =
    pick (eqb (number_at 1 s 0) 160) (9 + number_at 1 s 8) (pick (eqb (number_at 1 s 0) 164) (6 + number_at 1 s 5) (
    pick (eqb (number_at 1 s 0) 161) (8 + number_at 1 s 7) (pick (eqb (number_at 1 s 0) 165) (33 + number_at 1 s 7) (
    pick (eqb (number_at 1 s 0) 163) (27 + number_at 1 s 26) 3))))

-- whether a line that begins so is one of an image
unfoldable pub begins : ℕ → Bool
begins k = ((((eqb k 160 || eqb k 161) || eqb k 163) || eqb k 164) || eqb k 165) || eqb k 175
