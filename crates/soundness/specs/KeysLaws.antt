-- The key of a pair's row: handle, address type and address as one number. Two rows have one key exactly where they
-- are rows of one pair. Document 01, The image ("pairs distinct"). Assumes nothing.
use Rattle.std.specs.Prelude.{ℕ, ◌-◌, ◌≤◌, ◌≡◌, ◌&&◌, length, drop, get_or}
use Rattle.std.proofs.Math.Path.{sym, ap}
use Rattle.std.proofs.Common.{◌∙◌, arith, length-take-le, drop-cons}
use Rattle.std.proofs.Math.Bool.{true}
use mathlib.Core.List.{List, ◌∷◌}
use Rattle.std.proofs.Math.Dec.{eqb}
use Rattle.std.proofs.Math.ListN.{take}
use borrow.Author.Tests.{eq-eqb, eqb-true}
use Rattle.laws.specs.Tests.{sames}
use Rattle.laws.specs.TestsLaws.{and_left, and_right, and_both, sames-eq, eq-sames}
use Rattle.laws.specs.Loops.{every}
use Rattle.laws.specs.LoopsLaws.{every_take}
use Rattle.octets.specs.Little.{little, value, octets_of, is_octet}
use Rattle.octets.specs.LittleLaws.{little-value, octets-value}
use Rattle.model.specs.Types.{watched, device}
use Rattle.model.specs.Image.{pair_in}
use Rattle.model.specs.Watch.{is_pair}
use Rattle.soundness.specs.BelowLaws.{test-eq}
use Rattle.model.specs.Layout.{address_at, handle_at, high_at}

-- octets that make one number are the same
pub value_same : (xs ys : List ℕ) → length xs ≡ length ys → every is_octet xs ≡ true → every is_octet ys ≡ true
    → value xs ≡ value ys → xs ≡ ys
value_same xs ys l a b e =
    sym (octets-value xs a) ∙ ap (λ (v : ℕ). octets_of (length xs) v) e ∙ ap (λ (k : ℕ). octets_of k (value ys)) l
    ∙ octets-value ys b

-- the first eight octets of a row
pub row-key : (r : List ℕ) → 8 ≤ length r
    → take 8 r ≡ (pair_in r).handle ∷ watched (pair_in r)
unfolding pair_in watched device
row-key r h = rest r h (drop-cons r 0 0 (omega arith)) (drop-cons r 1 0 (omega arith))
  where
    rest : (r : List ℕ) → 8 ≤ length r → drop 0 r ≡ get_or r handle_at 0 ∷ drop 1 r
        → drop 1 r ≡ get_or r high_at 0 ∷ drop address_at r
        → take 8 r ≡ get_or r handle_at 0 ∷ get_or r high_at 0 ∷ take 6 (drop address_at r)
    rest r h a b = ap (λ (l : List ℕ). take 8 l) (a ∙ ap (λ (l : List ℕ). get_or r handle_at 0 ∷ l) b)

module _ (a b : List ℕ) (la : 8 ≤ length a) (lb : 8 ≤ length b) (oa : every is_octet a ≡ true)
    (ob : every is_octet b ≡ true) where
  -- one key
  pub key-same : little 8 a 0 ≡ little 8 b 0 → take 8 a ≡ take 8 b
  key-same e =
      value_same (take 8 a) (take 8 b) (length-take-le 8 a la
      ∙ sym (length-take-le 8 b lb)) (every_take is_octet 8 a oa)
      (every_take is_octet 8 b ob) (sym (little-value 8 a 0 la) ∙ e ∙ little-value 8 b 0 lb)

  -- one pair is one key
  pub key-pair : is_pair (pair_in a).handle (watched (pair_in a)) (pair_in b) ≡ eqb (little 8 b 0) (little 8 a 0)
  unfolding is_pair
  key-pair = test-eq _ _ to back
    where
      to : (eqb (pair_in b).handle (pair_in a).handle && sames (watched (pair_in b)) (watched (pair_in a))) ≡ true
          → eqb (little 8 b 0) (little 8 a 0) ≡ true
      to e =
          let t = eqb (pair_in b).handle (pair_in a).handle in
          let u = sames (watched (pair_in b)) (watched (pair_in a)) in
          let h : (pair_in b).handle ≡ (pair_in a).handle =
          eqb-true (pair_in b).handle (pair_in a).handle (and_left t u e) in
          let w : watched (pair_in b) ≡ watched (pair_in a) =
          sames-eq (watched (pair_in b)) (watched (pair_in a)) (and_right t u e) in
          let k : take 8 b ≡ take 8 a =
          row-key b lb ∙ ap (λ (n : ℕ). n ∷ watched (pair_in b)) h ∙ ap (λ (l : List ℕ). (pair_in a).handle ∷ l) w
          ∙ sym (row-key a la) in
          eq-eqb (little 8 b 0) (little 8 a 0) (little-value 8 b 0 lb ∙ ap value k ∙ sym (little-value 8 a 0 la))

      back : eqb (little 8 b 0) (little 8 a 0) ≡ true
          → (eqb (pair_in b).handle (pair_in a).handle && sames (watched (pair_in b)) (watched (pair_in a))) ≡ true
      back e =
          let k : (pair_in b).handle ∷ watched (pair_in b) ≡ (pair_in a).handle ∷ watched (pair_in a) =
          sym (row-key b lb) ∙ sym (key-same (sym (eqb-true (little 8 b 0) (little 8 a 0) e))) ∙ row-key a la in
          and_both (eq-eqb (pair_in b).handle (pair_in a).handle (ap (λ (l : List ℕ). get_or l 0 0) k))
          (eq-sames (watched (pair_in b)) (watched (pair_in a)) (ap (λ (l : List ℕ). drop 1 l) k))
