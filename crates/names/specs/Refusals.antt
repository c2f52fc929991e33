-- The words of refusals (docs/FORMATS.md, Refusal numbers). Definitions, and their octets. Assumes nothing.
use Rattle.std.specs.Prelude.{ℕ, List, [], ◌∷◌}
use Rattle.names.specs.Names.{Row, named}

-- each refusal and its words
unfoldable pub refusal_rows : List Row
refusal_rows =
    record { number = 1; name = "seen before" }
    ∷ record { number = 2; name = "gap" }
    ∷ record { number = 3; name = "output too short" }
    ∷ record { number = 4; name = "not a line" }
    ∷ record { number = 5; name = "payload not of its kind's form" }
    ∷ record { number = 6; name = "another opcode" }
    ∷ record { number = 7; name = "the state is not sound" }
    ∷ record { number = 9; name = "settings out of range" }
    ∷ record { number = 10; name = "not an image of a sound state" }
    ∷ record { number = 13; name = "list of editions full" }
    ∷ record { number = 14; name = "number not rising or not above the position" }
    ∷ record { number = 15; name = "prefix too long" }
    ∷ []

-- the words of a refusal; none of a number that is no refusal's
unfoldable pub refusal_name : ℕ → List ℕ
refusal_name x = named refusal_rows x
