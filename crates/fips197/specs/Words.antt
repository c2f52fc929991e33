-- FIPS 197, 3.5: words, lists of four octets; and a word as a number below 2^32, its first octet the least.
-- Assumes nothing.
use Rattle.std.specs.Prelude.{ℕ, ◌+◌, ◌/◌, ◌%◌, ◌^◌, List, [], ◌∷◌, get_or}
use Rattle.fips197.specs.Field.{◌⊕◌}

-- a word from its four octets
unfoldable pub word : (ℕ → ℕ) → List ℕ
word f = f 0 ∷ f 1 ∷ f 2 ∷ f 3 ∷ []

-- two words added octet by octet
unfoldable pub sums : List ℕ → List ℕ → List ℕ
sums [] ys = []
sums (x ∷ xs) [] = []
sums (x ∷ xs) (y ∷ ys) = x ⊕ y ∷ sums xs ys

-- a word whose octet r is octet r + k of another, counted round
unfoldable pub rotated : ℕ → List ℕ → List ℕ
rotated k w = word (λ r. get_or w ((r + k) % 4) 0)

-- octet r of a number
abbrev pub octet : ℕ → ℕ → ℕ
octet r w = w / 256 ^ r % 256

-- the word of a number
unfoldable pub octets : ℕ → List ℕ
octets w = octet 0 w ∷ octet 1 w ∷ octet 2 w ∷ octet 3 w ∷ []
