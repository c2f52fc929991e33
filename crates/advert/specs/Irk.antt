-- Conditions of type 3 (request T-03: "exactly 16 octets of key, least octet first"). Assumes nothing.
use Rattle.std.specs.Prelude.{ℕ, Bool, ◌&&◌, List, length, ◌==◌}
use Rattle.resolve.specs.Resolve.{key_size, resolves_by}

-- whether a condition has the form of type 3
unfoldable pub irk_form : List ℕ → Bool
irk_form condition = length condition == key_size

-- whether a packet's address is a random one that the key resolves
unfoldable pub irk_meets : List ℕ → ℕ → List ℕ → Bool
irk_meets condition t address = t == 1 && resolves_by condition address
