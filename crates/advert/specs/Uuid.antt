-- Conditions of type 2 (document 01, Conditions: "UUID type 1, 2, 3, then 2, 4, 16 octets. Looked for in AD types
-- 02 and 03, 04 and 05, 06 and 07, at offsets that are multiples of its size only; octets compared as sent.").
-- Assumes nothing.
use Rattle.std.specs.Prelude.{ℕ, ◌+◌, ◌*◌, ◌/◌, Bool, false, ◌&&◌, ◌||◌, List, [], ◌∷◌, length, ◌==◌}
use Rattle.laws.specs.Loops.{some}
use Rattle.laws.specs.Rows.{rows}
use Rattle.laws.specs.Tests.{sames}
use Rattle.advert.specs.Either.{both}

-- the whole UUIDs of a list of UUIDs of this size: a rest that is too short is none
unfoldable pub uuids : ℕ → List ℕ → List (List ℕ)
uuids size content = rows size (length content / size) content

-- whether a list of UUIDs has this one
unfoldable pub lists_uuid : List ℕ → List ℕ → Bool
lists_uuid uuid content = some (sames uuid) (uuids (length uuid) content)

-- whether a UUID type and a number of octets belong together
unfoldable pub uuid_size : ℕ → ℕ → Bool
uuid_size t n = (t == 1 && n == 2) || ((t == 2 && n == 4) || (t == 3 && n == 16))

-- whether a condition has the form of type 2
unfoldable pub uuid_form : List ℕ → Bool
uuid_form [] = false
uuid_form (t ∷ uuid) = uuid_size t (length uuid)

-- whether an advertisement or a scan response lists the condition's UUID: UUID type t is looked for in AD types 2 t
-- and 2 t + 1
unfoldable pub uuid_meets : List ℕ → List ℕ → List ℕ → Bool
uuid_meets [] adv scan = false
uuid_meets (t ∷ uuid) adv scan = uuid_size t (length uuid) && some (lists_uuid uuid) (both (2 * t) (2 * t + 1) adv scan)
