-- Advertisement data in words (docs/FORMATS.md, What `show` writes: AD structure). Definitions alone.
use Rattle.std.specs.Prelude.{ℕ, suc, ◌+◌, min, Bool, false, not, ◌&&◌, ◌||◌, List, [], ◌∷◌, ◌++◌, leb, ltb, eqb, length, drop}
use Rattle.laws.specs.Tests.{pick}
use Rattle.octets.specs.Numbers.{number_at}
use Rattle.lines.specs.Hex.{hex_of}
use Rattle.model.specs.Quoted.{codes}
use Rattle.texts.specs.Words.{pair_of}
use Rattle.words.specs.Pieces.{part_of, number_text, dbm}
use Rattle.words.specs.Uuids.{uuid_text}
use Rattle.fields.specs.Names.{ad_text}
use Rattle.fields.specs.Cuts.{all_of}

-- how many octets the piece at the start has: its length octet and as many octets as that says, where it says at
-- least one; else all that are left
unfoldable pub size_of : List ℕ → ℕ
size_of [] = 0
size_of (k ∷ s) = pick (eqb k 0) (suc (length s)) (pick (leb (suc (length s)) k) (suc (length s)) (1 + k))

-- whether a piece is as long as its length octet says, that being at least so many
unfoldable pub is_whole : List ℕ → ℕ → Bool
is_whole piece least = pick (ltb (number_at 1 piece 0) least) false (eqb (length piece) (1 + number_at 1 piece 0))

-- a character of a name: where it is not printable, a backslash and its number; a quote and a backslash too
unfoldable pub is_plain : ℕ → Bool
is_plain c = pick (ltb c 32 || ltb 126 c) false (not (eqb c 34) && not (eqb c 92))

unfoldable pub character_text : ℕ → List ℕ
character_text c = pick (is_plain c) (c ∷ []) (codes "\\x" ++ pair_of c)

unfoldable pub characters_text : List ℕ → List ℕ
characters_text [] = []
characters_text (c ∷ s) = character_text c ++ characters_text s

-- a name in quotes
unfoldable pub quoted_text : List ℕ → List ℕ
quoted_text s = codes " \"" ++ characters_text s ++ codes "\""

-- how long the UUIDs of a list are, or the one before service data: 0 where an AD type has none
unfoldable pub uuid_size : ℕ → ℕ
uuid_size kind =
    pick (((eqb kind 2 || eqb kind 3) || eqb kind 20) || eqb kind 22) 2
    (pick (((eqb kind 4 || eqb kind 5) || eqb kind 31) || eqb kind 32) 4 (
    pick (((eqb kind 6 || eqb kind 7) || eqb kind 21) || eqb kind 33) 16 0))

-- UUIDs of k octets each; the last has what is left
unfoldable pub next_of : ℕ → List ℕ → ℕ
next_of k s = min k (length s)

unfoldable pub uuid_in : List ℕ → List ℕ
uuid_in s = codes " " ++ uuid_text s

unfoldable pub uuids_text : ℕ → List ℕ → List ℕ
uuids_text k s = all_of (next_of k) uuid_in s

-- octets behind a blank, where there are any
unfoldable pub plain_text : List ℕ → List ℕ
plain_text s = pick (eqb (length s) 0) [] (codes " " ++ hex_of s)

-- a UUID of k octets, and the octets behind it
unfoldable pub headed_text : ℕ → List ℕ → List ℕ
headed_text k s = pick (ltb (length s) k) (plain_text s) ((codes " " ++ uuid_text (part_of s 0 k)) ++ plain_text (drop k s))

-- the number of a company, and the octets behind it
unfoldable pub company_text : List ℕ → List ℕ
company_text s = pick (ltb (length s) 2) (plain_text s)
    ((codes " 0x" ++ number_text (part_of s 0 2)) ++ plain_text (drop 2 s))

-- values of manufacturer data, of service data, of lists of UUIDs and of other types
unfoldable pub special_text : ℕ → List ℕ → List ℕ
special_text kind s =
    pick (eqb kind 255) (company_text s)
    (pick ((eqb kind 22 || eqb kind 32) || eqb kind 33) (headed_text (uuid_size kind) s) (
    pick (eqb (uuid_size kind) 0) (plain_text s) (uuids_text (uuid_size kind) s)))

-- the value of a structure: a name, a Tx power, or one of those
unfoldable pub value_text : ℕ → List ℕ → List ℕ
value_text kind s =
    pick (eqb kind 8 || eqb kind 9) (quoted_text s)
    (pick (eqb kind 10 && eqb (length s) 1) (codes " " ++ dbm (number_at 1 s 0)) (special_text kind s))

-- a structure, or octets that are none
unfoldable pub structure_text : List ℕ → List ℕ
structure_text piece =
    pick (is_whole piece 1)
    ((codes ", " ++ ad_text (number_at 1 piece 1)) ++ value_text (number_at 1 piece 1) (drop 2 piece))
    (codes ", no structure " ++ hex_of piece)

-- the structures of advertisement data
unfoldable pub structures_text : List ℕ → List ℕ
structures_text s = all_of size_of structure_text s
