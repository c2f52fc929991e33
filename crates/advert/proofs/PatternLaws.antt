-- Laws of the definitions in Pattern.
use Rattle.std.specs.Prelude.{◌≡◌, ℕ, suc, ◌+◌, ◌-◌, ◌<◌, ◌≤◌, Bool, true, false, ◌&&◌, List, [], ◌∷◌, length, take, drop, ◌==◌, ◌≢◌, slice_index, slice_index_or, refl}
use Rattle.std.proofs.Math.Path.{sym, ap}
use Rattle.std.proofs.Common.{◌∙◌, add-zero}
use Rattle.std.proofs.Math.Nat.{sub-zero}
use Rattle.std.proofs.Math.Numerals.{add-one}
use native.Mathlib.Omega.{arith}
use borrow.Author.Tests.{eq-eqb, ne_eqb, le-leb, lt-leb}
use Rattle.std.proofs.Math.ListN.{length-drop, drop_of_length-le}
use Rattle.std.proofs.Math.Seq.{drop-cons, length-take-le}
use Rattle.laws.specs.Loops.{some}
use Rattle.laws.specs.LoopsLaws.{some-step, some-stop, some-nil}
use Rattle.laws.specs.Tests.{sames}
use Rattle.laws.specs.TestsLaws.{cases_eq}
use Rattle.advert.specs.Parts.{parts, PartAt}
use Rattle.advert.specs.PartsLaws.{parts-nil, rest-whole}
use Rattle.advert.specs.Either.{both}
use Rattle.advert.specs.Pattern.{holds_at, extent, fills, patterns_form, pattern_meets}

-- two tests for equality that hold together
pub eqb-iff : (a b c d : ℕ) → (a ≡ b → c ≡ d) → (c ≡ d → a ≡ b) → (a == b) ≡ (c == d)
eqb-iff a b c d f g = cases_eq c d (λ e. eq-eqb a b (g e) ∙ sym (eq-eqb c d e))
    (λ n. ne_eqb a b (λ e. n (f e)) ∙ sym (ne_eqb c d n))

-- octets that would reach past the end of a text are not in it
pub holds-past : (text octets : List ℕ) (at : ℕ) → length text < at + length octets → false ≡ holds_at at octets text
unfolding holds_at
holds-past text octets at h = rw (lt-leb (at + length octets) (length text) h)

-- octets that end within a text
pub holds-within : (text octets : List ℕ) (at : ℕ) → at + length octets ≤ length text
    → holds_at at octets text ≡ sames octets (take (length octets) (drop at text))
unfolding holds_at
holds-within text octets at h = rw (le-leb (at + length octets) (length text) h)

pub holds-start : (text octets : List ℕ) (at : ℕ) → at + length octets ≤ length text
    → holds_at at octets text ≡ sames (drop 0 octets) (take (length octets - 0) (drop (at + 0) text))
holds-start text octets at h = rw (add-zero at, sub-zero (length octets)) (holds-within text octets at h)

-- the turns of a loop that compares octets: r is the answer, and what is left at octet j has it too
module _ (text octets : List ℕ) (at j : ℕ) (r : Bool)
    (q : r ≡ sames (drop j octets) (take (length octets - j) (drop (at + j) text))) where
  pub holds-end : length octets ≤ j → true ≡ r
  unfolding sames
  holds-end h =
      let d : length octets - j ≡ 0 = omega arith in
      sym (q ∙ rw (d, drop_of_length-le octets {i = j} h))

  module _ (h : j < length octets) (b : at + length octets ≤ length text) where
    turn : r ≡ (slice_index octets j == slice_index text (at + j) && sames (drop (j + 1) octets)
        (take (length octets - (j + 1)) (drop (at + (j + 1)) text)))
    unfolding sames
    turn =
        let d : length octets - j ≡ suc (length octets - (j + 1)) = omega arith in
        let s : at + (j + 1) ≡ suc (at + j) = omega arith in
        q ∙ rw (d, drop-cons octets j 0 h, drop-cons text (at + j) 0 (omega arith), s, add-one j)

    pub holds-step : slice_index_or text (at + j) 0 ≡ slice_index octets j
        → r ≡ sames (drop (j + 1) octets) (take (length octets - (j + 1)) (drop (at + (j + 1)) text))
    holds-step e = rw (eq-eqb (slice_index octets j) (slice_index text (at + j)) (sym e)) at turn

    pub holds-stop : (slice_index text (at + j) ≢ slice_index octets j) → false ≡ r
    holds-stop n = sym (rw (ne_eqb (slice_index octets j) (slice_index text (at + j)) (λ e. n (sym e))) at turn)

-- the turns of a loop over the patterns of a condition: what is left at index i has the answer
module _ (f : List ℕ → Bool) (xs : List ℕ) (i : ℕ) (r : Bool) (q : r ≡ some f (parts 3 (drop i xs))) where
  pub asked-end : length xs ≤ i → false ≡ r
  asked-end h = sym (q ∙ rw (drop_of_length-le xs {i = i} h, parts-nil 3) (some-nil f))

  module _ (e : ℕ) (p : PartAt 3 xs i e) where
    pub asked-none : e ≡ i → false ≡ r
    asked-none h = sym (q ∙ ap (some f) (p.none h) ∙ some-nil f)

    pub asked-hit : i < e → f (take (e - (i + 1)) (drop (i + 1) xs)) ≡ true → true ≡ r
    asked-hit h y = sym (q ∙ ap (some f) (p.more h)
        ∙ some-stop f (take (e - (i + 1)) (drop (i + 1) xs)) (parts 3 (drop e xs)) y)

    pub asked-miss : i < e → f (take (e - (i + 1)) (drop (i + 1) xs)) ≡ false → r ≡ some f (parts 3 (drop e xs))
    asked-miss h y = q ∙ ap (some f) (p.more h)
        ∙ some-step f (take (e - (i + 1)) (drop (i + 1) xs)) (parts 3 (drop e xs)) y

-- the turns of a loop that counts the patterns of a condition down: left are still to come, and what is left at
-- index i has the answer
module _ (xs : List ℕ) (i left : ℕ) (r : Bool) (q : r ≡ fills left (length xs - i) (parts 3 (drop i xs))) where
  pub filled-end : i ≡ length xs → (left == 0) ≡ r
  unfolding fills extent
  filled-end h =
      let d : length xs - i ≡ 0 = omega arith in
      let z : parts 3 (drop i xs) ≡ [] = rw (drop_of_length-le xs {i = i} (omega arith)) (parts-nil 3) in
      sym (q ∙ rw (z, d) (mathlib.Core.Bool.and-true (left == 0)))

  module _ (e : ℕ) (p : PartAt 3 xs i e) where
    pub filled_none : i < length xs → e ≡ i → false ≡ r
    unfolding fills extent
    filled_none b h =
        sym (q ∙ rw (p.none h) (Rattle.laws.specs.TestsLaws.and-not-right (left == 0) (length xs - i == 0)
        (ne_eqb (length xs - i) 0 (λ z. omega arith))))

    pub filled-over : i < e → left ≡ 0 → false ≡ r
    unfolding fills
    filled-over h z = sym (q ∙ rw (p.more h, ne_eqb left (suc (length (parts 3 (drop e xs)))) (λ g. omega arith)))

    pub filled_more : (rest : ℕ) → i < e → left ≡ rest + 1 → r ≡ fills rest (length xs - e) (parts 3 (drop e xs))
    unfolding fills extent
    filled_more rest h z =
        let f : e ≤ length xs = p.high in
        let n : length (take (e - (i + 1)) (drop (i + 1) xs)) ≡ e - (i + 1) =
        length-take-le (e - (i + 1)) (drop (i + 1) xs) (simp length-drop (omega arith)) in
        let a = eqb-iff left (suc (length (parts 3 (drop e xs)))) rest (length (parts 3 (drop e xs)))
        (λ g. omega arith) (λ g. omega arith) in
        let b = eqb-iff (length xs - i) (1 + (e - (i + 1)) + extent (parts 3 (drop e xs))) (length xs - e)
        (extent (parts 3 (drop e xs)))
        (λ g. omega arith) (λ g. omega arith) in
        q ∙ rw (p.more h, n, a, b)

-- the form of a condition that has a count, and the loop's first turn
pub form-none : (xs : List ℕ) → length xs ≡ 0 → false ≡ patterns_form xs
unfolding patterns_form
form-none [] h = refl
form-none (x ∷ xs) h = absurd (omega arith)

module _ (xs : List ℕ) (h : 0 < length xs) where
  pub form-zero : slice_index_or xs 0 0 ≡ 0 → false ≡ patterns_form xs
  unfolding patterns_form
  form-zero e = sym (ap patterns_form (drop-cons xs 0 0 h) ∙ rw (e))

  pub form-start : 0 < slice_index xs 0 → patterns_form xs ≡ fills (slice_index xs 0) (length xs - 1) (parts 3 (drop 1 xs))
  unfolding patterns_form
  form-start e =
      let d : length (drop 1 xs) ≡ length xs - 1 = length-drop 1 xs in
      ap patterns_form (drop-cons xs 0 0 h) ∙ rw (le-leb 1 (slice_index xs 0) e, d)

-- a pattern of two octets or more is its AD type, its start byte and its octets
pub pattern-split : (adv scan p : List ℕ) → 2 ≤ length p
    → pattern_meets adv scan p ≡ some (holds_at (slice_index p 1) (drop 2 p)) (both (slice_index p 0) (slice_index p 0) adv scan)
unfolding pattern_meets
pattern-split adv scan [] h = absurd (omega arith)
pattern-split adv scan (t ∷ []) h = absurd (omega arith)
pattern-split adv scan (t ∷ start ∷ octets) h = refl

pub pattern-of : (adv scan p : List ℕ) (start : ℕ) {r : Bool} → 2 ≤ length p → start ≡ slice_index p 1
    → r ≡ some (holds_at start (take (length p - 2) (drop 2 p))) (both (slice_index p 0) (slice_index p 0) adv scan)
    → r ≡ pattern_meets adv scan p
pattern-of adv scan p start h s e = rw (s, rest-whole 2 p) at e ∙ sym (pattern-split adv scan p h)
