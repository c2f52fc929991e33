-- The pieces of a line in words: parts of octets, numbers, levels, addresses, UUIDs, names. Definitions, and the laws
-- of putting them together. Assumes nothing.
use Rattle.std.specs.Prelude.{ℕ, ◌+◌, ◌-◌, ◌*◌, ◌||◌, List, [], ◌∷◌, ◌++◌, leb, ltb, eqb, length, take, drop}
use Prim.Native.String.{String}
use Rattle.laws.specs.Tests.{pick}
use Rattle.octets.specs.Numbers.{number_at}
use Rattle.decimals.specs.Decimals.{decimal}
use Rattle.lines.specs.Hex.{hex_of}
use Rattle.model.specs.Level.{level}
use Rattle.model.specs.Quoted.{codes}
use Rattle.names.specs.Names.{Row, named, name_in}
use Rattle.texts.specs.Words.{pair_of, address_text, kind_text, level_text}

-- so many octets from an index on; none where they do not lie within
unfoldable pub part_of : List ℕ → ℕ → ℕ → List ℕ
part_of s from n = pick (leb (from + n) (length s)) (take n (drop from s)) []

-- a number whose least significant octet comes first, in hexadecimal, the most significant first
unfoldable pub number_text : List ℕ → List ℕ
number_text [] = []
number_text (x ∷ s) = number_text s ++ pair_of x

-- an RSSI, two's complement
unfoldable pub dbm : ℕ → List ℕ
dbm x = level_text (level x) ++ codes " dBm"

-- a sum of 8 octets, two's complement
unfoldable pub sum_text : ℕ → List ℕ
sum_text v = pick (ltb v 9223372036854775808) (codes "" ++ decimal v) (codes "-" ++ decimal (18446744073709551616 - v))

-- the device at the start of octets: address type, then 256 times the address
unfoldable pub device_of : List ℕ → ℕ
device_of s = number_at 4 s 0 + 4294967296 * number_at 2 s 4 + 281474976710656 * number_at 1 s 6

-- its address type and its address
unfoldable pub device_text : ℕ → List ℕ
device_text d = kind_text d ++ codes " " ++ address_text d

-- the number of a UUID: 16 octets in five groups, 2 or 4 as a number, any other length as octets
unfoldable pub groups_text : List ℕ → List ℕ
groups_text s =
    number_text (part_of s 12 4) ++ (codes "-" ++ number_text (part_of s 10 2)) ++ (codes "-" ++ number_text (part_of s 8 2))
    ++ (codes "-" ++ number_text (part_of s 6 2)) ++ (codes "-" ++ number_text (part_of s 0 6))

unfoldable pub uuid_number : List ℕ → List ℕ
uuid_number s =
    pick (eqb (length s) 16) (groups_text s)
    (pick (eqb (length s) 2 || eqb (length s) 4) (codes "0x" ++ number_text s) (hex_of s))

-- a number's name in a table, or other words and the number in hexadecimal
unfoldable pub name_or : List ℕ → List ℕ → ℕ → List ℕ
name_or table words x = pick (eqb (length (name_in table x)) 0) (words ++ pair_of x) (name_in table x)

-- a number's name among rows, or other words and the number in hexadecimal
unfoldable pub named_or : List Row → String → ℕ → List ℕ
named_or rows words x = pick (eqb (length (named rows x)) 0) (codes words ++ pair_of x) (named rows x)
