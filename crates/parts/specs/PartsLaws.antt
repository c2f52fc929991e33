-- Laws of the definitions in Parts.
use Rattle.std.specs.Prelude.{ℕ, suc, ◌+◌, ◌-◌, ◌≤◌, ◌<◌, ◌≡◌, refl, List, [], ◌∷◌, Bool, true, false, ◌&&◌, eqb, length, take, drop, get_or, set}
use Rattle.std.proofs.Math.Path.{sym}
use Rattle.std.proofs.Common.{◌∙◌, arith, append_assoc, drop-drop, get_or-drop, length-drop, length-take-le}
use Rattle.std.proofs.Math.Seq.{paste}
use borrow.Rule.Slice.PartMut.{put_mid}
use lib.Pointwise.{pointwise}
use Rattle.std.proofs.Math.Bool.{and_assoc}
use Rattle.std.proofs.Math.Numerals.{add-one}
use Rattle.std.proofs.Math.ListN.{drop_of_length-le}
use Rattle.std.proofs.Math.Seq.{drop-cons}
use Rattle.laws.specs.Put.{put}
use Rattle.laws.specs.PutLaws.{put_copy, get_d-put-after}
use Rattle.laws.specs.Tests.{sames}
use Rattle.laws.specs.Loops.{every}
use Rattle.parts.specs.Parts.{is_zero}

-- a turn of a loop that moves a part towards the front of the same list: what is still to be moved is as it was
pub shift-turn : (t : List ℕ) (to from n j : ℕ) {l : List ℕ} → to ≤ from → from + n ≤ length t → j < n
    → l ≡ put t to (take j (drop from t))
    → set l (to + j) (get_or l (from + j) 0) ≡ put t to (take (j + 1) (drop from t))
shift-turn t to from n j {l} h b k q =
    let d : length (drop from t) ≡ length t - from = length-drop from t in
    let m : length (take j (drop from t)) ≡ j = length-take-le j (drop from t) (omega arith) in
    let g : get_or l (from + j) 0 ≡ get_or (drop from t) j 0 =
    rw q (get_d-put-after t to (take j (drop from t)) (from + j) 0 (omega arith) (omega arith))
    ∙ sym (get_or-drop from t j 0) in
    rw g (put_copy t to (drop from t) j 0 (omega arith) (omega arith) refl q)

-- a part of a list that was written whole, and a part pasted from a list: both are a put
pub put-mid : (xs : List ℕ) (at k : ℕ) (ys : List ℕ) → k ≡ length ys → put_mid at k xs ys ≡ put xs at ys
unfolding put
put-mid xs at k ys e =
    rw (e, drop-drop (length ys) at xs) (sym (append_assoc (take at xs) ys (drop (at + length ys) xs)))

pub put-paste : (xs : List ℕ) (at : ℕ) (ys : List ℕ) (n : ℕ) → n ≤ length ys → paste xs at ys n ≡ put xs at (take n ys)
unfolding put
put-paste xs at ys n h = rw (length-take-le n ys h)

-- the equality of std is the test of the laws
pub pointwise-sames : (a b : List ℕ) → pointwise eqb a b ≡ sames a b
unfolding sames
pointwise-sames [] [] = refl
pointwise-sames [] (y ∷ b) = refl
pointwise-sames (x ∷ a) [] = refl
pointwise-sames (x ∷ a) (y ∷ b) = rw (pointwise-sames a b)

and-true : (t : Bool) → (t && true) ≡ t
and-true true = refl
and-true false = refl

-- the turns of a loop that compares: the octets looked at and what is left at index i have the answer
module _ (a b : List ℕ) (all : Bool) (i : ℕ) (e : length a ≡ length b)
    (q : sames a b ≡ (all && sames (drop i a) (drop i b))) where
  pub same_step : i < length a
      → sames a b ≡ (all && eqb (get_or a i 0) (get_or b i 0) && sames (drop (i + 1) a) (drop (i + 1) b))
  unfolding sames
  same_step h =
      q ∙ rw (drop-cons a i 0 h, drop-cons b i 0 (omega arith), add-one i)
      (sym (and_assoc all (eqb (get_or a i 0) (get_or b i 0)) (sames (drop (suc i) a) (drop (suc i) b))))

  pub same_end : length a ≤ i → all ≡ sames a b
  unfolding sames
  same_end h = sym (q ∙ rw (drop_of_length-le a {i = i} h, drop_of_length-le b {i = i} (omega arith)) (and-true all))

-- the turns of a loop that looks for another number than 0
module _ (a : List ℕ) (all : Bool) (i : ℕ) (q : every is_zero a ≡ (all && every is_zero (drop i a))) where
  pub zero-step : i < length a → every is_zero a ≡ (all && is_zero (get_or a i 0) && every is_zero (drop (i + 1) a))
  unfolding every
  zero-step h =
      q ∙ rw (drop-cons a i 0 h, add-one i) (sym (and_assoc all (is_zero (get_or a i 0)) (every is_zero (drop (suc i) a))))

  pub zero-end : length a ≤ i → all ≡ every is_zero a
  unfolding every
  zero-end h = sym (q ∙ rw (drop_of_length-le a {i = i} h) (and-true all))
