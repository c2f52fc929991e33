-- The sections of a packet with a scan response: those of the advertisement, then those of the scan response
-- (document 02, T-06: "one lookup of an AD section takes both texts and hands back the part found in whichever holds
-- it, the advertisement first"). Each text ends its own list. A place is a text (the second where the flag is true)
-- and an index of it. Assumes nothing.
use Rattle.std.specs.Prelude.{◌≡◌, ℕ, ◌+◌, ◌-◌, ◌<◌, ◌≤◌, Bool, List, [], ◌∷◌, ◌++◌, length, take, drop, ◌≢◌}
use Rattle.laws.specs.Tests.{pick}
use Rattle.advert.specs.Sections.{sections, contents, walk_cost}

-- the text of a place
unfoldable pub text_of : Bool → List ℕ → List ℕ → List ℕ
text_of second adv scan = pick second scan adv

-- the contents of the sections of AD type t or u of both texts, in order
unfoldable pub both : ℕ → ℕ → List ℕ → List ℕ → List (List ℕ)
both t u adv scan = contents t u adv ++ contents t u scan

-- those at a place or later
unfoldable pub left : ℕ → ℕ → List ℕ → List ℕ → Bool → ℕ → List (List ℕ)
left t u adv scan second at =
    pick second (contents t u (drop at scan)) (contents t u (drop at adv) ++ contents t u scan)

-- how many octets are left at a place
unfoldable pub rest : List ℕ → List ℕ → Bool → ℕ → ℕ
rest adv scan second at = pick second (length scan - at) (length adv - at + length scan)

-- what going over those structures costs, the scan response's after the advertisement's (Sections.walk_cost)
unfoldable pub cost_left : ℕ → ℕ → (List ℕ → ℕ) → (List ℕ → Bool) → List ℕ → List ℕ → Bool → ℕ → ℕ
cost_left t u cost hit adv scan second at =
    pick second (walk_cost t u cost hit 0 (sections (drop at scan)))
    (walk_cost t u cost hit (walk_cost t u cost hit 0 (sections scan)) (sections (drop at adv)))

-- what the lookup hands back from a place on: a section from its AD type octet on, a part of the text of `second'`
-- that ends before index `to`, where the next lookup begins; or an empty part. `seen` AD types were looked at.
pub record Handed (t u : ℕ) (adv scan : List ℕ) (second : Bool) (at : ℕ) (second' : Bool) (to seen : ℕ)
    (part : List ℕ) : Type 0 where
  pub none : length part ≡ 0 → left t u adv scan second at ≡ []
  pub high : to ≤ length (text_of second' adv scan)
  pub here : part ≡ take (length part) (drop (to - length part) (text_of second' adv scan))
  pub more : (length part ≢ 0) → left t u adv scan second at ≡ drop 1 part ∷ left t u adv scan second' to
  pub less : (length part ≢ 0) → seen + (length part - 1) + rest adv scan second' to < rest adv scan second at
  pub few : length part ≡ 0 → seen ≤ rest adv scan second at
  pub pass : length part ≡ 0 → (cost : List ℕ → ℕ) (hit : List ℕ → Bool)
      → cost_left t u cost hit adv scan second at ≡ seen
  pub meet : (length part ≢ 0) → (cost : List ℕ → ℕ) (hit : List ℕ → Bool)
      → cost_left t u cost hit adv scan second at
      ≡ seen + (cost (drop 1 part) + pick (hit (drop 1 part)) 0 (cost_left t u cost hit adv scan second' to))
