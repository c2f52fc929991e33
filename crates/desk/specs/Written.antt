-- An address as people write it: six pairs of hexadecimal digits, the most significant octet first, with colons
-- between them. Definitions, and the laws of reading them. Assumes nothing.
use Rattle.std.specs.Prelude.{ℕ, ◌+◌, ◌-◌, ◌*◌, ◌%◌, Bool, ◌&&◌, List, [], ◌∷◌, leb, ltb, eqb, length, Option, Some, None}
use Rattle.laws.specs.Tests.{pick, sames}
use Rattle.octets.specs.Numbers.{number_at}
use Rattle.model.specs.Quoted.{codes}

-- the number of a hexadecimal digit in either case; of any other character 16
unfoldable pub digit_of : ℕ → ℕ
digit_of c =
    pick (ltb c 48) 16
    (pick (leb c 57) (c - 48) (pick (ltb c 65) 16 (pick (leb c 70) (c - 65 + 10) (pick (ltb c 97) 16 (
    pick (leb c 102) (c - 97 + 10) 16)))))

-- the character at an index, 0 behind the end
unfoldable pub char_at : List ℕ → ℕ → ℕ
char_at t i = number_at 1 t i

unfoldable pub is_pair : List ℕ → ℕ → Bool
is_pair t i = ltb (digit_of (char_at t i)) 16 && ltb (digit_of (char_at t (i + 1))) 16

unfoldable pub is_colon : List ℕ → ℕ → Bool
is_colon t i = eqb (char_at t i) 58

unfoldable pub octet_at : List ℕ → ℕ → ℕ
octet_at t i = (16 * digit_of (char_at t i) + digit_of (char_at t (i + 1))) % 256

unfoldable pub is_address : List ℕ → Bool
is_address t =
    eqb (length t) 17 && (is_pair t 0 && is_colon t 2 && is_pair t 3 && is_colon t 5)
    && (is_pair t 6 && is_colon t 8 && is_pair t 9 && is_colon t 11)
    && (is_pair t 12 && is_colon t 14 && is_pair t 15)

-- its octets, the least significant first, as in a packet
unfoldable pub address_in : List ℕ → List ℕ
address_in t = octet_at t 15 ∷ octet_at t 12 ∷ octet_at t 9 ∷ octet_at t 6 ∷ octet_at t 3 ∷ octet_at t 0 ∷ []

-- the address that a text is
unfoldable pub address_of : List ℕ → Option (List ℕ)
address_of t = pick (is_address t) (Some (address_in t)) None

-- "type public or random"
unfoldable pub type_of : List ℕ → Option ℕ
type_of w = pick (sames w (codes "public")) (Some 0) (pick (sames w (codes "random")) (Some 1) None)
