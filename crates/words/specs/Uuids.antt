-- A UUID in words: its number, and behind it in brackets the name that it has (docs/FORMATS.md, Names of UUIDs).
-- Definitions, and the laws of looking the name up. Assumes nothing.
use Rattle.std.specs.Prelude.{ℕ, Bool, ◌&&◌, List, [], ◌∷◌, ◌++◌, eqb, length}
use Rattle.laws.specs.Tests.{pick, sames}
use Rattle.octets.specs.Numbers.{number_at}
use Rattle.model.specs.Quoted.{codes}
use Rattle.names.specs.Uuids.{uuid_name}
use Rattle.words.specs.Pieces.{part_of, uuid_number}

-- the Bluetooth base, 00000000-0000-1000-8000-00805F9B34FB, but for its first group: least significant octet first
unfoldable pub base : List ℕ
base = 251 ∷ 52 ∷ 155 ∷ 95 ∷ 128 ∷ 0 ∷ 0 ∷ 128 ∷ 0 ∷ 16 ∷ 0 ∷ 0 ∷ []

-- whether a UUID of 4 octets, or one of 16 on that base, is one of 2 octets widened
unfoldable pub is_wide : List ℕ → Bool
is_wide s = eqb (length s) 4 && eqb (number_at 2 s 2) 0

unfoldable pub is_based : List ℕ → Bool
is_based s = (eqb (length s) 16 && sames (part_of s 0 12) base) && eqb (number_at 2 s 14) 0

-- the 2 octets of a UUID that has them; none of any other
unfoldable pub short_of : List ℕ → List ℕ
short_of s = pick (eqb (length s) 2) s (pick (is_wide s) (part_of s 0 2) (pick (is_based s) (part_of s 12 2) []))

-- a name in brackets, where there is one
unfoldable pub bracketed : List ℕ → List ℕ
bracketed w = pick (eqb (length w) 0) [] (codes " (" ++ w ++ codes ")")

-- the name behind a UUID's number
unfoldable pub behind_uuid : List ℕ → List ℕ
behind_uuid s = bracketed (uuid_name (number_at 1 (short_of s) 1) (number_at 1 (short_of s) 0))

-- a UUID: its number and its name
unfoldable pub uuid_text : List ℕ → List ℕ
uuid_text s = uuid_number s ++ behind_uuid s
