-- Laws of the definitions in Cost.
use Rattle.std.specs.Prelude.{◌≡◌, ℕ, suc, ◌+◌, ◌-◌, ◌<◌, ◌≤◌, Bool, true, false, List, [], ◌∷◌, length, take, drop, ◌==◌, ◌≢◌, slice_index, slice_index_or}
use Rattle.std.proofs.Math.Path.{refl, sym, ap}
use Rattle.std.proofs.Common.{◌∙◌, zero-add, eq-eqb, ne_eqb, le-leb, drop_of_length-le}
use Rattle.std.proofs.Math.Nat.{add-zero}
use Rattle.std.proofs.Math.Numerals.{add-one}
use native.Mathlib.Omega.{arith}
use Rattle.std.proofs.lemmas.Bool.{lt-leb}
use Rattle.std.proofs.Math.Seq.{drop-cons}
use Rattle.laws.specs.Tests.{pick}
use Rattle.advert.specs.Parts.{parts, PartAt}
use Rattle.advert.specs.PartsLaws.{parts-nil, rest-whole}
use Rattle.advert.specs.Pattern.{holds_at, patterns, pattern_meets}
use Rattle.advert.specs.Either.{rest, cost_left, Handed}
use Rattle.advert.proofs.EitherLaws.{cost-none}
use Rattle.advert.specs.Cost.{same_cost, octets_cost, both_cost, pattern_cost, patterns_cost, match_cost, in64}

-- octets that would reach past the end of a content cost nothing
pub cost-past : (text octets : List ℕ) (at : ℕ) → length text < at + length octets → 0 ≡ octets_cost at octets text
unfolding octets_cost pick
cost-past text octets at h = rw (lt-leb (at + length octets) (length text) h)

-- the turns of a loop that compares octets, at octet j
module _ (text octets : List ℕ) (at j : ℕ) where
  pub cost-start : at + length octets ≤ length text
      → octets_cost at octets text ≡ 0 + same_cost (drop 0 octets) (drop (at + 0) text)
  unfolding octets_cost pick
  cost-start h = rw (le-leb (at + length octets) (length text) h, add-zero at)
      (sym (zero-add (same_cost octets (drop at text))))

  module _ (q : octets_cost at octets text ≡ j + same_cost (drop j octets) (drop (at + j) text)) where
    pub cost-end : length octets ≤ j → j ≡ octets_cost at octets text
    unfolding same_cost
    cost-end h = let z : same_cost (drop j octets) (drop (at + j) text) ≡ 0 =
        rw (drop_of_length-le octets {i = j} h) in omega arith

    module _ (h : j < length octets) (b : at + length octets ≤ length text) where
      turn : same_cost (drop j octets) (drop (at + j) text)
          ≡ suc (pick (slice_index octets j == slice_index text (at + j))
          (same_cost (drop (j + 1) octets) (drop (at + (j + 1)) text)) 0)
      unfolding same_cost
      turn =
          let s : at + (j + 1) ≡ suc (at + j) = omega arith in
          rw (drop-cons octets j 0 h, drop-cons text (at + j) 0 (omega arith), s, add-one j)

      pub cost_step : slice_index_or text (at + j) 0 ≡ slice_index octets j
          → octets_cost at octets text ≡ (j + 1) + same_cost (drop (j + 1) octets) (drop (at + (j + 1)) text)
      unfolding pick
      cost_step e = let z = rw (eq-eqb (slice_index octets j) (slice_index text (at + j)) (sym e)) at turn in omega arith

      pub cost-stop : (slice_index text (at + j) ≢ slice_index octets j) → j + 1 ≡ octets_cost at octets text
      unfolding pick
      cost-stop n = let z = rw (ne_eqb (slice_index octets j) (slice_index text (at + j)) (λ e. n (sym e))) at turn in omega
          arith

-- the turns of a loop over the sections handed back: `count` so far, and what is left
module _ (t u : ℕ) (cost : List ℕ → ℕ) (hit : List ℕ → Bool) (adv scan : List ℕ) where
  pub count-all : both_cost t u cost hit adv scan ≡ 0 + cost_left t u cost hit adv scan false 0
  unfolding both_cost cost_left pick
  count-all = sym (zero-add _)

  pub count-done : (second : Bool) (at count : ℕ)
      → both_cost t u cost hit adv scan ≡ count + cost_left t u cost hit adv scan second at
      → rest adv scan second at ≡ 0 → count ≡ both_cost t u cost hit adv scan
  count-done second at count q h = let z = cost-none t u adv scan cost hit second at h in omega arith

  module _ (second : Bool) (at count : ℕ)
      (q : both_cost t u cost hit adv scan ≡ count + cost_left t u cost hit adv scan second at)
      {second' : Bool} {to seen : ℕ} {part : List ℕ} (p : Handed t u adv scan second at second' to seen part) where
    pub count_none : length part ≡ 0 → count + seen ≡ both_cost t u cost hit adv scan
    count_none e = let z = p.pass e cost hit in omega arith

    module _ (e : length part ≡ 0 → ⊥) {c : ℕ} (k : c ≡ cost (take (length part - 1) (drop 1 part))) where
      kept : c ≡ cost (drop 1 part)
      kept = k ∙ ap cost (rest-whole 1 part)

      pub count-hit : hit (take (length part - 1) (drop 1 part)) ≡ true
          → count + seen + c ≡ both_cost t u cost hit adv scan
      unfolding pick
      count-hit y =
          let z = rw (ap hit (sym (rest-whole 1 part)) ∙ y) at (p.meet e cost hit) in
          let w = kept in omega arith

      pub count-miss : hit (take (length part - 1) (drop 1 part)) ≡ false
          → both_cost t u cost hit adv scan ≡ count + seen + c + cost_left t u cost hit adv scan second' to
      unfolding pick
      count-miss y =
          let z = rw (ap hit (sym (rest-whole 1 part)) ∙ y) at (p.meet e cost hit) in
          let w = kept in omega arith

-- a pattern of two octets or more
pub cost-of : (adv scan p : List ℕ) (start : ℕ) {r : ℕ} → 2 ≤ length p → start ≡ slice_index p 1
    → r ≡ both_cost (slice_index p 0) (slice_index p 0) (octets_cost start (take (length p - 2) (drop 2 p)))
    (holds_at start (take (length p - 2) (drop 2 p))) adv scan
    → r ≡ pattern_cost adv scan p
unfolding pattern_cost
cost-of adv scan p start h s e = rw (s, rest-whole 2 p) at e ∙ sym (split p h)
  where
    split : (p : List ℕ) → 2 ≤ length p
        → pattern_cost adv scan p
        ≡ both_cost (slice_index p 0) (slice_index p 0) (octets_cost (slice_index p 1) (drop 2 p))
        (holds_at (slice_index p 1) (drop 2 p)) adv scan
    split [] h = absurd (omega arith)
    split (t ∷ []) h = absurd (omega arith)
    split (t ∷ start ∷ octets) h = refl

-- the turns of a loop over the patterns of a condition: what is left at index i is not yet counted
pub record Counted (total adv scan : List ℕ) (i count : ℕ) : Type 0 where
  pub within : patterns_cost adv scan (parts 3 (drop i total)) ≤ match_cost total adv scan
  pub is : count ≡ in64 (match_cost total adv scan - patterns_cost adv scan (parts 3 (drop i total)))

module _ (condition adv scan : List ℕ) where
  pub counted_none : Counted condition adv scan 1 0
  unfolding match_cost patterns in64
  counted_none =
      let z : patterns_cost adv scan (parts 3 (drop 1 condition)) - patterns_cost adv scan (parts 3 (drop 1 condition))
      ≡ 0 = omega arith in
      record { within = omega arith; is = rw z refl }

  module _ (i count : ℕ) (q : Counted condition adv scan i count) where
    none_left : parts 3 (drop i condition) ≡ [] → count ≡ in64 (match_cost condition adv scan)
    unfolding patterns_cost
    none_left e =
        let z : patterns_cost adv scan (parts 3 (drop i condition)) ≡ 0 = rw e in
        let w : match_cost condition adv scan - patterns_cost adv scan (parts 3 (drop i condition))
        ≡ match_cost condition adv scan = omega arith in
        q.is ∙ ap in64 w

    pub counted-end : length condition ≤ i → count ≡ in64 (match_cost condition adv scan)
    counted-end h = none_left (rw (drop_of_length-le condition {i = i} h) (parts-nil 3))

    module _ (e : ℕ) (p : PartAt 3 condition i e) where
      pub counted-last : e ≡ i → count ≡ in64 (match_cost condition adv scan)
      counted-last h = none_left (p.none h)

      module _ (h : i < e) {c n : ℕ} (k : c ≡ pattern_cost adv scan (take (e - (i + 1)) (drop (i + 1) condition)))
          (w : n ≡ in64 (count + c)) where
        all_of : (t : Bool) → pattern_meets adv scan (take (e - (i + 1)) (drop (i + 1) condition)) ≡ t
            → patterns_cost adv scan (parts 3 (drop i condition))
            ≡ c + pick t 0 (patterns_cost adv scan (parts 3 (drop e condition)))
        unfolding patterns_cost
        all_of t y = ap (patterns_cost adv scan) (p.more h) ∙ rw (y, ← k)

        pub counted-hit : pattern_meets adv scan (take (e - (i + 1)) (drop (i + 1) condition)) ≡ true
            → n ≡ in64 (match_cost condition adv scan)
        unfolding in64 pick
        counted-hit y =
            let z : patterns_cost adv scan (parts 3 (drop i condition)) ≡ c + 0 = all_of true y in
            let a = q.is in let b = q.within in
            omega arith

        pub counted-miss : pattern_meets adv scan (take (e - (i + 1)) (drop (i + 1) condition)) ≡ false
            → Counted condition adv scan e n
        unfolding in64 pick
        counted-miss y =
            let z : patterns_cost adv scan (parts 3 (drop i condition))
            ≡ c + patterns_cost adv scan (parts 3 (drop e condition)) = all_of false y in
            let a = q.is in let b = q.within in
            record { within = omega arith; is = omega arith }
