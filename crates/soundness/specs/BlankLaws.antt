-- A window that holds nothing but its ticks, zeros but for the kept RSSI, holds what it may where these do. Document
-- 01, The image ("Sound"; "every unused octet and place of the state 0"). Assumes nothing.
use Rattle.std.specs.Prelude.{ℕ, ◌+◌, ◌*◌, ◌^◌, ◌≤◌, ◌≡◌, Bool, ◌&&◌, List, leb, ltb, eqb, length, take, drop, get_or}
use Rattle.std.proofs.Math.Path.{refl, sym}
use Rattle.std.proofs.Common.{ap, ◌∙◌, leb-true, le-leb, lt-ltb, le-ltb, eq-eqb, ne_eqb, length-take-le}
use Rattle.std.proofs.Math.Bool.{true, false}
use native.Mathlib.Omega.{arith}
use Rattle.std.proofs.lemmas.Bool.{lt-leb}
use Rattle.laws.specs.Loops.{every}
use Rattle.laws.specs.Tests.{pick}
use Rattle.laws.specs.TestsLaws.{and_left, and_right, cases-le}
use Rattle.octets.specs.Little.{little}
use Rattle.octets.specs.LittleLaws.{little-add, little-take}
use Rattle.octets.specs.Numbers.{number_at}
use Rattle.octets.specs.NumbersLaws.{number-of}
use Rattle.parts.specs.Parts.{is_zero}
use Rattle.model.specs.Level.{sum_in_range}
use Rattle.soundness.specs.Fields.{window_test, latest_test, empty_test, rest_test, blank_test, ticks_test}
use Rattle.soundness.specs.TailsLaws.{front, nothing}
use Rattle.soundness.specs.Code.{sum_above}
use Rattle.soundness.specs.CodeLaws.{above-range}
use Rattle.model.specs.Layout.{data_at, event_at, length_at, packets_at, pair_size, rssi_at, sum_at, ticks_at}

-- by its numbers
sum-none : sum_in_range 0 0 ≡ true
unfolding sum_above
sum-none = sym (above-range 0 0 (omega arith) (omega arith))

and-true : (b : Bool) → (b && true) ≡ b
and-true true = refl
and-true false = refl

window-none : (position sampling ticks : ℕ) → ticks_test sampling ticks ≡ window_test position sampling ticks 0 0
unfolding window_test ticks_test pick
window-none position sampling ticks = go (leb 1 sampling && leb sampling 254)
  where
    go : (t : Bool) → pick t (ltb ticks sampling) (eqb ticks 0)
        ≡ pick t (ltb ticks sampling && leb 0 position && sum_in_range 0 0) (eqb ticks 0 && eqb 0 0)
    go true =
        sym (ap (λ (b : Bool). ltb ticks sampling && b && sum_in_range 0 0) (le-leb 0 position (omega arith))
        ∙ ap (λ (b : Bool). ltb ticks sampling && true && b) sum-none ∙ and-true (ltb ticks sampling && true)
        ∙ and-true (ltb ticks sampling))
    go false = sym (and-true (eqb ticks 0))

-- no ticks, and some
pub ticks-none : (sampling ticks : ℕ) → ticks ≡ 0 → true ≡ ticks_test sampling ticks
unfolding ticks_test pick
ticks-none sampling ticks e = go (leb 1 sampling && leb sampling 254) refl
  where
    go : (t : Bool) → (leb 1 sampling && leb sampling 254) ≡ t → true ≡ pick t (ltb ticks sampling) (eqb ticks 0)
    go true q = sym (lt-ltb ticks sampling
        (let h = leb-true 1 sampling (and_left (leb 1 sampling) (leb sampling 254) q) in omega arith))
    go false q = sym (eq-eqb ticks 0 e)

pub ticks-some : (sampling ticks : ℕ) → (ticks ≡ 0 → ⊥)
    → (ltb ticks sampling && leb sampling 254) ≡ ticks_test sampling ticks
unfolding ticks_test pick
ticks-some sampling ticks n =
    cases-le 1 sampling (λ a. rw (le-leb 1 sampling a, ne_eqb ticks 0 n) (go (leb sampling 254)))
    (λ a. rw (lt-leb 1 sampling a, ne_eqb ticks 0 n, le-ltb ticks sampling (omega arith)))
  where
    go : (t : Bool) → (ltb ticks sampling && t) ≡ pick t (ltb ticks sampling) false
    go true = and-true (ltb ticks sampling)
    go false = none (ltb ticks sampling)
      where
        none : (b : Bool) → (b && false) ≡ false
        none true = refl
        none false = refl

empty-none : (sifting : Bool) → empty_test sifting 0 0 0 0 ≡ true
unfolding empty_test latest_test pick
empty-none true = refl
empty-none false = refl

module _ (r : List ℕ) (l : length r ≡ pair_size) (e : blank_test r ≡ true) where
  counts_zero : every is_zero (drop packets_at (take rssi_at r)) ≡ true
  unfolding blank_test
  counts_zero = and_left (every is_zero (drop packets_at (take rssi_at r))) (every is_zero (drop event_at r)) e

  latest-zero : every is_zero (drop event_at r) ≡ true
  unfolding blank_test
  latest-zero = and_right (every is_zero (drop packets_at (take rssi_at r))) (every is_zero (drop event_at r)) e

  long : length (take rssi_at r) ≡ rssi_at
  long = length-take-le rssi_at r (omega arith)

  all-zero : little 12 r packets_at ≡ 0
  all-zero = sym (little-take 12 rssi_at r packets_at (omega arith))
      ∙ nothing (take rssi_at r) 12 packets_at (omega (arith, long)) counts_zero

  packets-zero : little 4 r packets_at ≡ 0
  packets-zero = let z =
      all-zero in let s : little 12 r packets_at
      ≡ little 4 r packets_at + 256 ^ 4 * little 8 r sum_at = little-add 4 8 r packets_at in omega arith

  sum-zero : little 8 r sum_at ≡ 0
  sum-zero = let z = all-zero in let s : little 12 r packets_at ≡ little 4 r packets_at + 256 ^ 4 * little 8 r sum_at =
      little-add 4 8 r packets_at in omega arith

  both_zero : little 2 r event_at ≡ 0
  both_zero = nothing r 2 event_at (omega arith) latest-zero

  event-zero : get_or r event_at 0 ≡ 0
  unfolding little
  event-zero = let z = both_zero in omega arith

  length-zero : get_or r length_at 0 ≡ 0
  unfolding little
  length-zero = let z = both_zero in omega arith

  behind-zero : every is_zero (drop data_at r) ≡ true
  behind-zero = sym (front r 2 event_at (omega arith) both_zero) ∙ latest-zero

  pub blank-rest : (position sampling : ℕ) (sifting : Bool) {b : Bool} → b ≡ ticks_test sampling (get_or r ticks_at 0)
      → b ≡ rest_test position sampling sifting r
  unfolding rest_test
  blank-rest position sampling sifting q =
      sym (rw (
        packets-zero,
        sum-zero,
        event-zero,
        length-zero,
        empty-none sifting,
        behind-zero,
        ← window-none
            position sampling (get_or r ticks_at 0),
        ← q,
      ) (rest _))
    where
      rest : (x : Bool) → (x && true && true) ≡ x
      rest true = refl
      rest false = refl

-- whether a window is so, by its packets first
module _ (r : List ℕ) (l : length r ≡ pair_size) {v : ℕ} (q : v ≡ number_at 4 r packets_at) where
  counts-long : packets_at + 4 ≤ length (take rssi_at r)
  counts-long = let n : length (take rssi_at r) ≡ rssi_at = length-take-le rssi_at r (omega arith) in omega arith

  packets-there : little 4 (take rssi_at r) packets_at ≡ v
  packets-there =
      little-take 4 rssi_at r packets_at (omega arith) ∙ sym (number-of 4 r packets_at q (omega arith))

  pub blank-counted : (v ≡ 0 → ⊥) → false ≡ blank_test r
  unfolding blank_test
  blank-counted n = go (every is_zero (drop packets_at (take rssi_at r))) refl
    where
      go : (b : Bool) → every is_zero (drop packets_at (take rssi_at r)) ≡ b
          → false ≡ (b && every is_zero (drop event_at r))
      go true e = absurd (n (sym packets-there ∙ nothing (take rssi_at r) 4 packets_at counts-long e))
      go false e = refl

  pub blank-idle : {a b : Bool} → v ≡ 0 → a ≡ every is_zero (drop sum_at (take rssi_at r))
      → b ≡ every is_zero (drop event_at r) → (a && b) ≡ blank_test r
  unfolding blank_test
  blank-idle z d e = rw (d, e, front (take rssi_at r) 4 packets_at counts-long (packets-there ∙ z))
