-- Laws of the definitions in Cuts.
use Prim.Native.Nat.{ℕ, zero, suc, ◌+◌, ◌-◌, ◌≤◌, ◌<◌}
use Rattle.std.specs.Prelude.{◌≡◌, length, take, drop, get_or}
use Rattle.std.proofs.Math.Path.{refl, ap}
use Rattle.std.proofs.Common.{sym, ◌∙◌, drop_of_length-le, drop-cons, drop-drop}
use mathlib.Core.List.{List, [], ◌∷◌, ◌++◌}
use native.Mathlib.Omega.{arith}
use Rattle.words.specs.Says.{Says}
use Rattle.words.specs.SaysLaws.{same, nothing, then}
use Rattle.fields.specs.Cuts.{cut_from, each, all_of}

module _ (size : List ℕ → ℕ) (f : List ℕ → List ℕ) where
  passed : (s : List ℕ) (n : ℕ) → cut_from size s n ≡ cut_from size (drop n s) 0
  unfolding cut_from
  passed [] zero = refl
  passed [] (suc n) = refl
  passed (x ∷ s) (suc n) = passed s n
  passed (x ∷ s) zero = refl

  pub all_none : (s : List ℕ) (i : ℕ) → length s ≤ i → all_of size f (drop i s) ≡ []
  unfolding all_of cut_from each
  all_none s i h = ap (λ (l : List ℕ). all_of size f l) (drop_of_length-le s {i = i} h)

  first : (x : ℕ) (s : List ℕ) (n : ℕ) → n ≡ size (x ∷ s) → 0 < n → all_of size f (x ∷ s) ≡ f (take n (x ∷ s))
      ++ all_of size f (drop n (x ∷ s))
  unfolding all_of cut_from each
  first x s zero e h = absurd (omega arith)
  first x s (suc n) e h =
      let m : suc n - 1 ≡ n = omega arith in
      ap (λ (k : ℕ). f (take k (x ∷ s)) ++ each f (cut_from size s (k - 1))) (sym e)
      ∙ ap (λ (j : ℕ). f (take (suc n) (x ∷ s)) ++ each f (cut_from size s j)) m
      ∙ ap (λ (l : List (List ℕ)). f (take (suc n) (x ∷ s)) ++ each f l) (passed s n)

  -- the words of what is left at an index are those of the next piece and of what is left behind it
  pub all-next : (s : List ℕ) (i n : ℕ) → i < length s → n ≡ size (drop i s) → 0 < n
      → all_of size f (drop i s) ≡ f (take n (drop i s)) ++ all_of size f (drop (i + n) s)
  all-next s i n h e k =
      let d = drop-cons s i 0 h in
      ap (λ (l : List ℕ). all_of size f l) d ∙ first (get_or s i 0) (drop (suc i) s) n (e ∙ ap size d) k
      ∙ ap (λ (l : List ℕ). f (take n l) ++ all_of size f (drop n l)) (sym d)
      ∙ ap (λ (l : List ℕ). f (take n (drop i s)) ++ all_of size f l) (drop-drop n i s)

-- what is still to be said at an index of octets, of which the words are said one piece after another: said there,
-- all is said
abbrev pub Left : (List ℕ → List ℕ) → List ℕ → ℕ → List ℕ → ℕ → List ℕ → ℕ → Type 0
Left f s i out at out' end = (o : List ℕ) (r : ℕ) → Says out' end (f (drop i s)) o r → Says out at (f s) o r

module _ (f : List ℕ → List ℕ) (s : List ℕ) where
  pub left-turn : (i j : ℕ) {w out out' out'' : List ℕ} {at end r : ℕ} → f (drop i s) ≡ w ++ f (drop j s)
      → Left f s i out at out' end → Says out' end w out'' r
      → Left f s j out at out'' r
  left-turn i j e p t = λ o q u. p o q (same (sym e) (then t u))

  pub left_end : (i : ℕ) {out out' : List ℕ} {at end : ℕ} → f (drop i s) ≡ [] → Left f s i out at out' end
      → Says out at (f s) out' end
  left_end i {out} {out'} {at} {end} e p = p out' end (same (sym e) (nothing out' end))
