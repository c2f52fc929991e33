-- Laws of numbered lists. Assumes nothing.
use Rattle.std.specs.Prelude.{◌≡◌, ◌⊎◌, drop}
use Rattle.std.proofs.Math.Path.{refl, ap}
use Rattle.std.proofs.Common.{inl}
use Rattle.std.proofs.Math.Logic.{inr}
use mathlib.Core.List.{List, [], ◌∷◌, ◌++◌}
use Prim.Native.Nat.{ℕ, zero, suc, ◌+◌, ◌<◌}
use native.Mathlib.Omega.{arith}
use Rattle.std.proofs.Math.ListN.{length}
use Rattle.rule.specs.Base.{In, All}
use Rattle.rule.specs.BaseLaws.{in_left, in_right, in-append, all_in, in_all}
use Rattle.chains.specs.Chain.{numbered}

module _ {A : Type 0} where
  pub numbered-append : (i : ℕ) (l r : List A) → numbered i (l ++ r) ≡ numbered i l ++ numbered (i + length l) r
  unfolding numbered
  numbered-append i [] r = let z : i + 0 ≡ i = omega arith in rw z
  numbered-append i (a ∷ l) r =
      let z : suc i + length l ≡ i + suc (length l) = omega arith in
      rw (← z) (ap {B = List (ℕ × A)} (λ t. (suc i, a) ∷ t) (numbered-append (suc i) l r))

  -- what is left after k stands among all
  pub numbered-drop : (k i : ℕ) (l : List A) (x : ℕ × A) → In x (numbered (i + k) (drop k l)) → In x (numbered i l)
  unfolding numbered
  numbered-drop zero i l x h = let z : i + 0 ≡ i = omega arith in rw z at h
  numbered-drop (suc k) i [] x h = absurd h
  numbered-drop (suc k) i (a ∷ l) x h =
      let z : i + suc k ≡ suc i + k = omega arith in
      inr (numbered-drop k (suc i) l x (rw z at h))

  numbered-above : (i : ℕ) (l : List A) (x : ℕ × A) → In x (numbered i l) → i < x.0
  unfolding numbered
  numbered-above i [] x x3 = elim x3 [ ]
  numbered-above i (a ∷ l) x (inl e) = let q : x.0 ≡ suc i = ap (λ (y : ℕ × A). y.0) e in omega arith
  numbered-above i (a ∷ l) x (inr h) = let q = numbered-above (suc i) l x h in omega (arith, q)

  -- one thing for each number, each of those that stand there: the very list
  pub numbered-same : (i : ℕ) (l r : List A) → length l ≡ length r → All (λ x. In x (numbered i r)) (numbered i l)
      → l ≡ r
  unfolding numbered
  numbered-same i [] [] e a = refl
  numbered-same i [] (y ∷ r) e a = absurd (omega arith)
  numbered-same i (x ∷ l) [] e a = absurd (omega arith)
  numbered-same i (x ∷ l) (y ∷ r) e a =
      let same : x ≡ y = head a.0 in
      let rest : l ≡ r = numbered-same (suc i) l r (omega arith)
      (in_all (λ z. In z (numbered (suc i) r)) (numbered (suc i) l)
      (λ z h. tail z (numbered-above (suc i) l z h)
      (all_in (λ w. In w (numbered i (y ∷ r))) (numbered (suc i) l) a.1 z h))) in
      rw (same, rest)
    where
      head : In (suc i, x) (numbered i (y ∷ r)) → x ≡ y
      head (inl q) = ap (λ (z : ℕ × A). z.1) q
      head (inr h) = let q = numbered-above (suc i) r (suc i, x) h in absurd (omega (arith, q))

      tail : (z : ℕ × A) → suc i < z.0 → In z (numbered i (y ∷ r)) → In z (numbered (suc i) r)
      tail z u (inl q) = let p : z.0 ≡ suc i = ap (λ (w : ℕ × A). w.0) q in absurd (omega arith)
      tail z u (inr h) = h

-- one more at the end of both
pub widen : {A : Type 0} (l r t : List A) (x : A) → (In x l → In x r) → In x (l ++ t) → In x (r ++ t)
widen l r t x f i = go (in-append x l t i)
  where
    go : In x l ⊎ In x t → In x (r ++ t)
    go (inl j) = in_left x r t (f j)
    go (inr j) = in_right x r t j
