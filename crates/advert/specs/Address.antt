-- Conditions of type 4 (document 01, Conditions: "address type 0 or 1 and address, equal to the packet's.").
-- Assumes nothing.
use Rattle.std.specs.Prelude.{ℕ, Bool, false, ◌&&◌, List, [], ◌∷◌, length, ◌==◌, nat_le}
use Rattle.laws.specs.Tests.{sames}

-- whether a condition has the form of type 4
unfoldable pub address_form : List ℕ → Bool
address_form [] = false
address_form (t ∷ address) = nat_le t 1 && length address == 6

-- whether a condition is the packet's address type and address
unfoldable pub address_meets : List ℕ → ℕ → List ℕ → Bool
address_meets condition t address = sames condition (t ∷ address)
