-- Conditions of type 1 (document 01, Conditions: "a count of at least 1, then that many patterns, filling the
-- condition exactly. A pattern is Length (at least 3, counting AD type and start byte), AD type, start byte, Length
-- − 2 octets. One matching pattern is enough."). Assumes nothing.
use Rattle.std.specs.Prelude.{ℕ, ◌+◌, Bool, false, ◌&&◌, List, [], ◌∷◌, length, take, drop, ◌==◌, nat_le}
use Rattle.laws.specs.Loops.{some}
use Rattle.laws.specs.Tests.{sames}
use Rattle.advert.specs.Parts.{parts}
use Rattle.advert.specs.Either.{both}

-- whether a text holds these octets at an offset: they end within it, and are equal
unfoldable pub holds_at : ℕ → List ℕ → List ℕ → Bool
holds_at at octets text = nat_le (at + length octets) (length text) && sames octets (take (length octets) (drop at text))

-- the patterns of a condition as they stand in it after the count: AD type, start byte, octets
unfoldable pub patterns : List ℕ → List (List ℕ)
patterns condition = parts 3 (drop 1 condition)

-- the octets that a row of parts takes with their length octets
unfoldable pub extent : List (List ℕ) → ℕ
extent [] = 0
extent (p ∷ ps) = 1 + length p + extent ps

-- whether these are n patterns that take m octets
unfoldable pub fills : ℕ → ℕ → List (List ℕ) → Bool
fills n m ps = n == length ps && m == extent ps

-- whether a condition has the form of type 1
unfoldable pub patterns_form : List ℕ → Bool
patterns_form [] = false
patterns_form (n ∷ rest) = nat_le 1 n && fills n (length rest) (parts 3 rest)

-- whether a packet's texts, the advertisement and the scan response, match a pattern: some section of its AD type
-- holds its octets at its start byte, 0 being the first octet after the AD type
unfoldable pub pattern_meets : List ℕ → List ℕ → List ℕ → Bool
pattern_meets adv scan [] = false
pattern_meets adv scan (t ∷ []) = false
pattern_meets adv scan (t ∷ start ∷ octets) = some (holds_at start octets) (both t t adv scan)

-- whether they match some pattern of the condition
unfoldable pub patterns_meet : List ℕ → List ℕ → List ℕ → Bool
patterns_meet condition adv scan = some (pattern_meets adv scan) (patterns condition)
