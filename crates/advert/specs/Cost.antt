-- How many comparisons the match of a pattern condition makes (document 02, T-08: "a comparison being one condition
-- octet against one data octet, AD types included: patterns in order, each over the AD structures in order, the AD
-- type first, then, if it is equal and the structure long enough, octets up to the first difference; the first match
-- ends all"). The octet that differs is compared too. Assumes nothing.
use Rattle.std.specs.Prelude.{ℕ, suc, ◌+◌, ◌%◌, Bool, List, [], ◌∷◌, length, drop, ◌==◌, nat_le}
use Rattle.laws.specs.Tests.{pick}
use Rattle.advert.specs.Sections.{sections, walk_cost}
use Rattle.advert.specs.Pattern.{holds_at, patterns, pattern_meets}

-- octets up to the first difference, that one included
unfoldable pub same_cost : List ℕ → List ℕ → ℕ
same_cost [] ys = 0
same_cost (x ∷ xs) [] = 0
same_cost (x ∷ xs) (y ∷ ys) = suc (pick (x == y) (same_cost xs ys) 0)

-- a pattern's octets against a content, from the start byte on; none where the content is not long enough
unfoldable pub octets_cost : ℕ → List ℕ → List ℕ → ℕ
octets_cost start octets content = pick (nat_le (start + length octets) (length content))
    (same_cost octets (drop start content)) 0

-- the advertisement's structures, then the scan response's
unfoldable pub both_cost : ℕ → ℕ → (List ℕ → ℕ) → (List ℕ → Bool) → List ℕ → List ℕ → ℕ
both_cost t u cost hit adv scan = walk_cost t u cost hit (walk_cost t u cost hit 0 (sections scan)) (sections adv)

-- a pattern: AD type, start byte, octets
unfoldable pub pattern_cost : List ℕ → List ℕ → List ℕ → ℕ
pattern_cost adv scan [] = 0
pattern_cost adv scan (t ∷ []) = 0
pattern_cost adv scan (t ∷ start ∷ octets) = both_cost t t (octets_cost start octets) (holds_at start octets) adv scan

-- patterns in order: "the first match ends all"
unfoldable pub patterns_cost : List ℕ → List ℕ → List (List ℕ) → ℕ
patterns_cost adv scan [] = 0
patterns_cost adv scan (p ∷ ps) = pattern_cost adv scan p + pick (pattern_meets adv scan p) 0 (patterns_cost adv scan ps)

-- the count of a pattern condition against an advertisement and a scan response, which is empty where there is none
unfoldable pub match_cost : (condition adv scan : List ℕ) → ℕ
match_cost condition adv scan = patterns_cost adv scan (patterns condition)

-- a number held in 64 bits: the remainder
unfoldable pub in64 : ℕ → ℕ
in64 n = n % 18446744073709551616
