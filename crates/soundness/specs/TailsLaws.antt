-- Zeros from an index on, looked at by numbers of several octets. Document 01, The image ("every unused octet and
-- place of the state 0"). Assumes nothing.
use Prim.Native.Nat.{ℕ, zero, suc, ◌+◌, ◌-◌, ◌≤◌, ◌<◌}
use Rattle.std.specs.Prelude.{◌≡◌, Bool, ◌&&◌, eqb, length, drop}
use Rattle.std.proofs.Math.Path.{refl, sym, ap}
use Rattle.std.proofs.Common.{◌∙◌, add-zero, drop_of_length-le, drop-cons, drop-drop}
use Rattle.std.proofs.Math.Bool.{true, false}
use mathlib.Core.List.{List}
use native.Mathlib.Omega.{arith}
use borrow.Author.Tests.{eq-eqb, ne_eqb, eqb-true}
use Rattle.std.specs.Int.Bits.{bit_and, bit_or, or_add_and, or_zero_l}
use Rattle.std.proofs.lemmas.Nat.{and_le_r}
use Rattle.std.proofs.Math.ListN.{get_or}
use Rattle.laws.specs.Loops.{every}
use Rattle.laws.specs.LoopsLaws.{every_drop}
use Rattle.laws.specs.TestsLaws.{and_left, and_right, cases_eq}
use Rattle.octets.specs.Little.{little}
use Rattle.octets.specs.Numbers.{number_at}
use Rattle.octets.specs.NumbersLaws.{number-of}
use Rattle.parts.specs.Parts.{is_zero}

-- two numbers joined bit by bit are 0 where both are
pub or_left : (a b : ℕ) → bit_or a b ≡ 0 → a ≡ 0
or_left a b e = let s : bit_or a b + bit_and a b ≡ a + b = or_add_and a b in let l : bit_and a b ≤ b =
    and_le_r a b in omega arith

and-true : (b : Bool) → (b && true) ≡ b
and-true true = refl
and-true false = refl

and-false : (b : Bool) → (b && false) ≡ false
and-false true = refl
and-false false = refl

or-none : (a b : ℕ) → eqb (bit_or a b) 0 ≡ (eqb a 0 && eqb b 0)
or-none a b =
    cases_eq a 0
    (λ e. ap (λ (x : ℕ). eqb (bit_or x b) 0) e ∙ ap (λ (x : ℕ). eqb x 0) (or_zero_l b)
    ∙ sym (ap (λ (x : Bool). x && eqb b 0) (eq-eqb a 0 e)))
    (λ n. ne_eqb (bit_or a b) 0 (λ z. n (or_left a b z)) ∙ sym (ap (λ (x : Bool). x && eqb b 0) (ne_eqb a 0 n)))

module _ (r : List ℕ) where
  -- from a later index on
  later : (i j : ℕ) → i ≤ j → every is_zero (drop i r) ≡ true → every is_zero (drop j r) ≡ true
  later i j h e =
      let k : i + (j - i) ≡ j = omega arith in
      ap (λ (n : ℕ). every is_zero (drop n r)) (sym k) ∙ ap (every is_zero) (sym (drop-drop (j - i) i r))
      ∙ every_drop is_zero (j - i) (drop i r) e

  next : (i : ℕ) → i < length r → every is_zero (drop i r) ≡ (is_zero (get_or r i 0) && every is_zero (drop (i + 1) r))
  unfolding every
  next i h =
      ap (every is_zero) (drop-cons r i 0 h)
      ∙ ap (λ (j : ℕ). is_zero (get_or r i 0) && every is_zero (drop j r)) (let e : suc i ≡ i + 1 = omega arith in e)

  pub front : (m i : ℕ) → i + m ≤ length r → little m r i ≡ 0 → every is_zero (drop i r) ≡ every is_zero (drop (i + m) r)
  unfolding little
  front zero i h e = ap (λ (j : ℕ). every is_zero (drop j r)) (sym (add-zero i))
  front (suc m) i h e =
      let a : get_or r i 0 ≡ 0 = omega arith in
      let b : little m r (i + 1) ≡ 0 = omega arith in
      let k : i + 1 + m ≡ i + suc m = omega arith in
      next i (omega arith) ∙ ap (λ (t : Bool). t && every is_zero (drop (i + 1) r)) (eq-eqb (get_or r i 0) 0 a)
      ∙ front m (i + 1) (omega arith) b
      ∙ ap (λ (j : ℕ). every is_zero (drop j r)) k

  pub nothing : (m i : ℕ) → i + m ≤ length r → every is_zero (drop i r) ≡ true → little m r i ≡ 0
  unfolding little
  nothing zero i h e = refl
  nothing (suc m) i h e =
      let q : (is_zero (get_or r i 0) && every is_zero (drop (i + 1) r)) ≡ true = sym (next i (omega arith)) ∙ e in
      let a : get_or r i 0 ≡ 0 =
      eqb-true (get_or r i 0) 0 (and_left (is_zero (get_or r i 0)) (every is_zero (drop (i + 1) r)) q) in
      let b : little m r (i + 1) ≡ 0 =
      nothing m (i + 1) (omega arith) (and_right (is_zero (get_or r i 0)) (every is_zero (drop (i + 1) r)) q) in
      omega arith

  -- a number of m octets at an index: 0, or not
  module _ (m i : ℕ) (h : i + m ≤ length r) {v : ℕ} (q : v ≡ number_at m r i) where
    pub zeros-on : v ≡ 0 → every is_zero (drop i r) ≡ every is_zero (drop (i + m) r)
    zeros-on e = front m i h (sym (number-of m r i q h) ∙ e)

    pub zeros-not : (v ≡ 0 → ⊥) → false ≡ every is_zero (drop i r)
    zeros-not n = go (every is_zero (drop i r)) refl
      where
        go : (b : Bool) → every is_zero (drop i r) ≡ b → false ≡ b
        go true e = absurd (n (number-of m r i q h ∙ nothing m i h e))
        go false e = refl

  -- one octet, and none
  pub zeros-last : (i : ℕ) → i < length r → length r ≤ i + 1 → eqb (get_or r i 0) 0 ≡ every is_zero (drop i r)
  unfolding every
  zeros-last i h k =
      sym (next i h ∙ ap (λ (l : List ℕ). is_zero (get_or r i 0) && every is_zero l) (drop_of_length-le r {i = i + 1} k)
      ∙ trues (is_zero (get_or r i 0)))
    where
      trues : (b : Bool) → (b && true) ≡ b
      trues true = refl
      trues false = refl

  pub zeros-none : (i : ℕ) → length r ≤ i → true ≡ every is_zero (drop i r)
  unfolding every
  zeros-none i h = sym (ap (every is_zero) (drop_of_length-le r {i = i} h))

  -- .. by eight octets at a time, joined bit by bit, with the last eight among them
  module _ {v : ℕ} (last : ℕ) (h : last + 8 ≤ length r) (k : length r ≤ last + 8) (q : v ≡ number_at 8 r last) where
    pub joined-none : (from : ℕ) → from ≤ last → (eqb v 0 && every is_zero (drop from r)) ≡ every is_zero (drop from r)
    joined-none from b = go (every is_zero (drop from r)) refl
      where
        go : (t : Bool) → every is_zero (drop from r) ≡ t → (eqb v 0 && t) ≡ t
        go true e = ap (λ (x : Bool). x && true)
            (eq-eqb v 0 (number-of 8 r last q h ∙ nothing 8 last h (later from last b e)))
        go false e = and-false (eqb v 0)

    pub joined_end : (i any : ℕ) → last ≤ i → (any ≡ 0 → v ≡ 0) → eqb any 0 ≡ (eqb any 0 && every is_zero (drop i r))
    joined_end i any b f =
        cases_eq any 0
        (λ e. let z : every is_zero (drop last r) ≡ true = front 8 last h (sym (number-of 8 r last q h) ∙ f e)
        ∙ sym (zeros-none (last + 8) k) in
        sym (ap (λ (x : Bool). eqb any 0 && x) (later last i b z) ∙ and-true (eqb any 0)))
        (λ n. ne_eqb any 0 n ∙ sym (ap (λ (x : Bool). x && every is_zero (drop i r)) (ne_eqb any 0 n)))

  module _ (i : ℕ) (h : i + 8 ≤ length r) {w : ℕ} (q : w ≡ number_at 8 r i) where
    pub joined-more : (any from : ℕ) → (eqb any 0 && every is_zero (drop i r)) ≡ every is_zero (drop from r)
        → (eqb (bit_or any w) 0 && every is_zero (drop (i + 8) r)) ≡ every is_zero (drop from r)
    joined-more any from e =
        ap (λ (x : Bool). x && every is_zero (drop (i + 8) r)) (or-none any w)
        ∙ cases_eq w 0
        (λ z. ap (λ (x : Bool). (eqb any 0 && x) && every is_zero (drop (i + 8) r)) (eq-eqb w 0 z)
        ∙ ap (λ (x : Bool). x && every is_zero (drop (i + 8) r)) (and-true (eqb any 0))
        ∙ ap (λ (x : Bool). eqb any 0 && x) (sym (zeros-on 8 i h q z)) ∙ e)
        (λ n. ap (λ (x : Bool). (eqb any 0 && x) && every is_zero (drop (i + 8) r)) (ne_eqb w 0 n)
        ∙ ap (λ (x : Bool). x && every is_zero (drop (i + 8) r)) (and-false (eqb any 0))
        ∙ sym (and-false (eqb any 0)) ∙ ap (λ (x : Bool). eqb any 0 && x) (zeros-not 8 i h q n) ∙ e)
