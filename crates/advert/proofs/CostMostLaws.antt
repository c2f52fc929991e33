-- The most comparisons that the match of a pattern condition makes (document 02, T-08: "at most 450: 15 patterns, at
-- most 30 each .. one number, at most 900"). Assumes nothing.
use Rattle.std.specs.Prelude.{◌≡◌, ℕ, zero, suc, ◌+◌, ◌-◌, ◌*◌, ◌≤◌, Bool, true, false, List, [], ◌∷◌, length, take, drop, ◌==◌, refl}
use Rattle.std.proofs.Common.{suc-mul, le-leb, length-take, length-drop, length-take-le}
use native.Mathlib.Omega.{arith}
use Rattle.std.proofs.lemmas.Bool.{lt-leb}
use Rattle.laws.specs.Loops.{when}
use Rattle.laws.specs.Tests.{pick}
use Rattle.laws.specs.TestsLaws.{cases-le}
use Rattle.advert.specs.Parts.{parts_from, parts}
use Rattle.advert.specs.PartsLaws.{parts-nil}
use Rattle.advert.specs.Sections.{sections, is_type, walk_cost}
use Rattle.advert.specs.Pattern.{holds_at, patterns, extent, pattern_meets}
use Rattle.advert.proofs.Laws.{extent-parts}
use Rattle.advert.specs.Cost.{same_cost, octets_cost, both_cost, pattern_cost, patterns_cost, match_cost}

-- octets of a pattern and octets of a content: no more comparisons than either has
same-most : (xs ys : List ℕ) → same_cost xs ys ≤ length xs
unfolding same_cost pick
same-most [] ys = omega arith
same-most (x ∷ xs) [] = omega arith
same-most (x ∷ xs) (y ∷ ys) = go (x == y) (same-most xs ys)
  where
    go : (t : Bool) → same_cost xs ys ≤ length xs → suc (pick t (same_cost xs ys) 0) ≤ suc (length xs)
    go true h = omega arith
    go false h = omega arith

pub octets-most : (start : ℕ) (octets content : List ℕ) → octets_cost start octets content ≤ length content
unfolding octets_cost pick
octets-most start octets content =
    cases-le (start + length octets) (length content)
    (λ h. rw (le-leb (start + length octets) (length content) h)
    (omega (arith, same-most octets (drop start content))))
    (λ h. rw (lt-leb (start + length octets) (length content) h) (omega arith))

-- of a section handed back, as the code takes its content
pub compared-most : (start : ℕ) (octets part : List ℕ) {c : ℕ}
    → c ≡ octets_cost start octets (take (length part - 1) (drop 1 part))
    → c ≤ length part - 1
compared-most start octets part e =
    let n : length (take (length part - 1) (drop 1 part)) ≤ length part - 1 =
    simp (length-take, length-drop) (omega arith) in
    omega (arith, octets-most start octets (take (length part - 1) (drop 1 part)))

-- the octets of structures without their length octets
unfoldable pub lengths : List (List ℕ) → ℕ
lengths [] = 0
lengths (s ∷ ss) = length s + lengths ss

lengths-extent : (ss : List (List ℕ)) → lengths ss + length ss ≡ extent ss
unfolding lengths extent
lengths-extent [] = refl
lengths-extent (s ∷ ss) = let h = lengths-extent ss in omega arith

module _ (t u : ℕ) (cost : List ℕ → ℕ) (hit : List ℕ → Bool) (few : (l : List ℕ) → cost l ≤ length l) where
  pub walk-most : (after : ℕ) (ss : List (List ℕ)) → walk_cost t u cost hit after ss ≤ after + lengths ss
  unfolding walk_cost lengths pick
  walk-most after [] = omega arith
  walk-most after ([] ∷ ss) = omega (arith, walk-most after ss)
  walk-most after ((x ∷ content) ∷ ss) = go (is_type t u x) (hit content) (walk-most after ss)
    where
      go : (b h : Bool) → walk_cost t u cost hit after ss ≤ after + lengths ss
          → suc (pick b (cost content + pick h 0 (walk_cost t u cost hit after ss)) (walk_cost t u cost hit after ss))
          ≤ after + (suc (length content) + lengths ss)
      go true true y = omega (arith, few content)
      go true false y = omega (arith, few content)
      go false h y = omega arith

-- parts take no more octets than the text has
extent-most : (least : ℕ) (xs : List ℕ) (k : ℕ) → k ≤ length xs → extent (parts_from least xs k) + k ≤ length xs
unfolding parts_from extent when
extent-most least [] k h = omega arith
extent-most least (x ∷ xs) (suc k) h = omega (arith, extent-most least xs k (omega arith))
extent-most least (x ∷ xs) zero h =
    cases-le least x
    (λ a. cases-le x (length xs)
    (λ b. let n : length (take x xs) ≡ x = length-take-le x xs b in
    rw (le-leb least x a, le-leb x (length xs) b) (omega (arith, extent-most least xs x b)))
    (λ b. rw (le-leb least x a, lt-leb x (length xs) b) (omega arith)))
    (λ a. rw (lt-leb least x a) (omega arith))

-- a text of at most 31 octets: at most 30 without the length octets of its structures
pub text-most : (xs : List ℕ) → length xs ≤ 31 → lengths (sections xs) ≤ 30
unfolding sections parts lengths
text-most xs h = go (parts_from 1 xs 0) (omega (arith, extent-most 1 xs 0 (omega arith)))
  where
    go : (ss : List (List ℕ)) → extent ss ≤ 31 → lengths ss ≤ 30
    go [] b = omega arith
    go (s ∷ ss) b = let e = lengths-extent (s ∷ ss) in omega arith

-- a condition of at most 64 octets: at most 15 patterns
pub patterns-most : (condition : List ℕ) → length condition ≤ 64 → length (patterns condition) ≤ 15
unfolding patterns parts
patterns-most condition h =
    let n : length (drop 1 condition) ≤ 63 = simp length-drop (omega arith) in
    omega (arith, extent-parts (drop 1 condition) 0, extent-most 3 (drop 1 condition) 0 (omega arith))

module _ (adv scan : List ℕ) where
  pattern-most : (p : List ℕ) → pattern_cost adv scan p ≤ lengths (sections adv) + lengths (sections scan)
  unfolding pattern_cost both_cost
  pattern-most [] = omega arith
  pattern-most (t ∷ []) = omega arith
  pattern-most (t ∷ start ∷ octets) =
      let c = octets_cost start octets in
      let h = holds_at start octets in
      let few : (l : List ℕ) → c l ≤ length l = octets-most start octets in
      omega (
        arith,
        walk-most t t c h few (walk_cost t t c h 0 (sections scan)) (sections adv),
        walk-most t t c h few 0
            (sections scan),
      )

  patterns-cost-most : (b : ℕ) (ps : List (List ℕ)) → lengths (sections adv) + lengths (sections scan) ≤ b
      → patterns_cost adv scan ps ≤ length ps * b
  unfolding patterns_cost pick
  patterns-cost-most b [] h = omega arith
  patterns-cost-most b (p ∷ ps) h =
      rw (suc-mul (length ps) b) (go (pattern_meets adv scan p) (length ps * b) (patterns-cost-most b ps h))
    where
      go : (t : Bool) (n : ℕ) → patterns_cost adv scan ps ≤ n
          → pattern_cost adv scan p + pick t 0 (patterns_cost adv scan ps) ≤ n + b
      go true n y = omega (arith, pattern-most p)
      go false n y = omega (arith, pattern-most p)

-- "at most 450: 15 patterns, at most 30 each"
pub most-450 : (condition adv : List ℕ) → length condition ≤ 64 → length adv ≤ 31 → match_cost condition adv [] ≤ 450
unfolding match_cost sections lengths
most-450 condition adv h a =
    let z : lengths (parts 1 []) ≡ 0 = rw (parts-nil 1) refl in
    let b : patterns_cost adv [] (patterns condition) ≤ length (patterns condition) * 30 =
    patterns-cost-most adv [] 30 (patterns condition) (omega (arith, text-most adv a)) in
    omega (arith, patterns-most condition h)

-- "With kind 04 .. one number, at most 900"
pub most-900 : (condition adv scan : List ℕ) → length condition ≤ 64 → length adv ≤ 31 → length scan ≤ 31
    → match_cost condition adv scan ≤ 900
unfolding match_cost
most-900 condition adv scan h a s =
    let b : patterns_cost adv scan (patterns condition) ≤ length (patterns condition) * 60 =
    patterns-cost-most adv scan 60 (patterns condition) (omega (arith, text-most adv a, text-most scan s)) in
    omega (arith, patterns-most condition h)
