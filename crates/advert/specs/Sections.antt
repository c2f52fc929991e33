-- The AD structures of one text, an advertisement or a scan response, and the lookup of them by AD type
-- (document 01, Conditions: "AD structures: length L, then L octets, the first the AD type. L = 0 or a structure
-- past the end ends the list; earlier ones count."). Assumes nothing.
use Rattle.std.specs.Prelude.{◌≡◌, ℕ, suc, ◌+◌, ◌-◌, ◌<◌, ◌≤◌, Bool, true, false, ◌||◌, List, [], ◌∷◌, length, take, drop, ◌==◌}
use Rattle.laws.specs.Tests.{pick}
use Rattle.advert.specs.Parts.{parts}

-- the AD structures of an advertisement in order, each its AD type and then its content
unfoldable pub sections : List ℕ → List (List ℕ)
sections adv = parts 1 adv

-- whether an AD type is one of the two looked for
unfoldable pub is_type : ℕ → ℕ → ℕ → Bool
is_type t u x = x == t || x == u

-- the contents of those sections that have AD type t or u, in order
unfoldable pub contents_of : ℕ → ℕ → List (List ℕ) → List (List ℕ)
contents_of t u [] = []
contents_of t u ([] ∷ ss) = contents_of t u ss
contents_of t u ((x ∷ content) ∷ ss) = pick (is_type t u x) (content ∷ contents_of t u ss) (contents_of t u ss)

-- the lookup: the contents of an advertisement's sections of AD type t or u, in order
unfoldable pub contents : ℕ → ℕ → List ℕ → List (List ℕ)
contents t u adv = contents_of t u (sections adv)

-- what it costs to go over structures in order (T-08; Cost says what a pattern's content costs): one for the AD type
-- of each; where it is looked for, what the content costs; a hit ends all. `after` is the cost of what is gone over
-- when there are no more.
unfoldable pub walk_cost : ℕ → ℕ → (List ℕ → ℕ) → (List ℕ → Bool) → ℕ → List (List ℕ) → ℕ
walk_cost t u cost hit after [] = after
walk_cost t u cost hit after ([] ∷ ss) = walk_cost t u cost hit after ss
walk_cost t u cost hit after ((x ∷ content) ∷ ss) =
    suc (pick (is_type t u x) (cost content + pick (hit content) 0 (walk_cost t u cost hit after ss))
    (walk_cost t u cost hit after ss))

-- the first section of type t or u at index `at` of a text or later: its content is from index `from` on and ends
-- before index `to`, where the next structure begins; `seen` AD types were looked at
pub record Lookup (t u : ℕ) (xs : List ℕ) (at : ℕ) (found : Bool) (seen from to : ℕ) : Type 0 where
  pub none : found ≡ false → contents t u (drop at xs) ≡ []
  pub low : found ≡ true → seen + at < from
  pub order : found ≡ true → from ≤ to
  pub high : found ≡ true → to ≤ length xs
  pub more : found ≡ true → contents t u (drop at xs) ≡ take (to - from) (drop from xs) ∷ contents t u (drop to xs)
  pub few : found ≡ false → seen + at ≤ length xs
  pub pass : found ≡ false → (cost : List ℕ → ℕ) (hit : List ℕ → Bool) (after : ℕ)
      → walk_cost t u cost hit after (sections (drop at xs)) ≡ seen + after
  pub meet : found ≡ true → (cost : List ℕ → ℕ) (hit : List ℕ → Bool) (after : ℕ)
      → walk_cost t u cost hit after (sections (drop at xs))
      ≡ seen + (cost (take (to - from) (drop from xs)) + pick (hit (take (to - from) (drop from xs))) 0
      (walk_cost t u cost hit after (sections (drop to xs))))
