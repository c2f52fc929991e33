-- Laws of the definitions in Names.
use Prim.Native.Nat.{ℕ, zero, suc, ◌+◌, ◌-◌, ◌≤◌, ◌<◌}
use Rattle.std.specs.Prelude.{◌≡◌, refl, Bool, true, false, leb, eqb, length, take, drop}
use Rattle.std.proofs.Math.Path.{sym, ap}
use Rattle.std.proofs.Common.{◌∙◌, add-one, arith, leb-true, le-leb, eq-eqb, ne_eqb, length-append, length-drop, drop_of_length-le, drop-cons, drop-drop, drop_at}
use mathlib.Core.List.{List, [], ◌∷◌, ◌++◌}
use Rattle.std.proofs.Math.Numerals.{add-two}
use Rattle.std.proofs.lemmas.Bool.{lt-leb}
use Rattle.std.proofs.Math.ListN.{get_or}
use Rattle.std.proofs.Math.Seq.{take-append_seam}
use Rattle.laws.specs.Tests.{pick}
use Rattle.laws.specs.TestsLaws.{pick_true, pick-false, and_left, and_right}
use Rattle.laws.specs.Loops.{every}
use Rattle.model.specs.Quoted.{codes}
use Rattle.names.specs.Names.{Row, named, name_from, name_in}

-- the octets of rows
unfoldable pub table_of : List Row → List ℕ
table_of [] = []
table_of (r ∷ l) = r.number ∷ length (codes r.name) ∷ (codes r.name ++ table_of l)

-- what is passed over is of no matter
pub from-drop : (t : List ℕ) (k x : ℕ) → name_from t k x ≡ name_in (drop k t) x
unfolding name_from name_in
from-drop [] zero x = refl
from-drop [] (suc k) x = refl
from-drop (a ∷ t) (suc k) x = from-drop t k x
from-drop (a ∷ t) zero x = refl

pub name-row : (a n : ℕ) (t : List ℕ) (x : ℕ)
    → name_in (a ∷ n ∷ t) x ≡ pick (leb n (length t)) (pick (eqb a x) (take n t) (name_in (drop n t) x)) []
unfolding name_in name_from
name-row a n t x = ap (λ (l : List ℕ). pick (leb n (length t)) (pick (eqb a x) (take n t) l) []) (from-drop t n x)

pub none : (x : ℕ) → name_in [] x ≡ []
unfolding name_in name_from
none x = refl

-- looked up in the octets of rows
pub looked-up : (l : List Row) (x : ℕ) → name_in (table_of l) x ≡ named l x
unfolding table_of named
looked-up [] x = none x
looked-up (r ∷ l) x =
    let w = codes r.name in
    let k : leb (length w) (length (w ++ table_of l)) ≡ true =
    le-leb (length w) (length (w ++ table_of l)) (simp length-append (omega arith)) in
    name-row r.number (length w) (w ++ table_of l) x
    ∙ pick_true (pick (eqb r.number x) (take (length w) (w ++ table_of l))
    (name_in (drop (length w) (w ++ table_of l)) x)) [] k
    ∙ rw (take-append_seam, drop_at w (table_of l) (length w) refl, looked-up l x)

-- no name is longer than the longest of the rows
unfoldable pub is_short : ℕ → Row → Bool
is_short m r = leb (length (codes r.name)) m

pub named-most : (l : List Row) (m x : ℕ) → every (is_short m) l ≡ true → length (named l x) ≤ m
unfolding named every is_short
named-most [] m x e = omega arith
named-most (r ∷ l) m x e =
    go (eqb r.number x) (leb-true (length (codes r.name)) m (and_left (is_short m r) (every (is_short m) l) e))
    (named-most l m x (and_right (is_short m r) (every (is_short m) l) e))
  where
    go : (b : Bool) → length (codes r.name) ≤ m → length (named l x) ≤ m
        → length (pick b (codes r.name) (named l x)) ≤ m
    go true h k = rw (pick_true (codes r.name) (named l x) refl) h
    go false h k = rw (pick-false (codes r.name) (named l x) refl) k

-- turns of the loop that looks a number up: at index i what is left has the same name
module _ (t : List ℕ) (i x : ℕ) (q : name_in (drop i t) x ≡ name_in t x) where
  pub met-end : length t ≤ i → [] ≡ name_in t x
  met-end h = sym (ap (λ (l : List ℕ). name_in l x) (drop_of_length-le t {i = i} h) ∙ none x) ∙ q

  pub met-last : i + 1 ≡ length t → [] ≡ name_in t x
  unfolding name_in name_from
  met-last h = sym
      (ap (λ (l : List ℕ). name_in l x)
      (drop-cons t i 0 (omega arith)
      ∙ ap (λ (l : List ℕ). get_or t i 0 ∷ l) (drop_of_length-le t {i = suc i} (omega arith)))) ∙ q

  private-row : i + 1 < length t
      → name_in t x ≡ pick (leb (get_or t (i + 1) 0) (length (drop (i + 2) t)))
      (pick (eqb (get_or t i 0) x) (take (get_or t (i + 1) 0) (drop (i + 2) t))
      (name_in (drop (i + 2 + get_or t (i + 1) 0) t) x)) []
  private-row h =
      let e : drop i t ≡ get_or t i 0 ∷ get_or t (i + 1) 0 ∷ drop (i + 2) t =
      rw (add-one, add-two)
      (drop-cons t i 0 (omega arith) ∙ ap (λ (l : List ℕ). get_or t i 0 ∷ l) (drop-cons t (suc i) 0 (omega arith))) in
      sym q ∙ ap (λ (l : List ℕ). name_in l x) e ∙ name-row (get_or t i 0) (get_or t (i + 1) 0) (drop (i + 2) t) x
      ∙ ap (λ (l : List ℕ). pick (leb (get_or t (i + 1) 0) (length (drop (i + 2) t)))
      (pick (eqb (get_or t i 0) x) (take (get_or t (i + 1) 0) (drop (i + 2) t)) (name_in l x)) [])
      (drop-drop (get_or t (i + 1) 0) (i + 2) t)

  module _ (k : ℕ) (kk : k ≡ get_or t (i + 1) 0) where
    pub met-past : i + 1 < length t → length t - (i + 2) < k → [] ≡ name_in t x
    met-past h l =
        sym (private-row h
        ∙ pick-false _ _ (lt-leb (get_or t (i + 1) 0) (length (drop (i + 2) t)) (simp length-drop (omega arith))))

    pub met-found : i + 1 < length t → k ≤ length t - (i + 2) → get_or t i 0 ≡ x → take k (drop (i + 2) t) ≡ name_in t x
    met-found h l e =
        sym (private-row h
        ∙ pick_true _ _ (le-leb (get_or t (i + 1) 0) (length (drop (i + 2) t)) (simp length-drop (omega arith)))
        ∙ pick_true _ _ (eq-eqb (get_or t i 0) x e) ∙ ap (λ (n : ℕ). take n (drop (i + 2) t)) (sym kk))

    pub met-other : i + 1 < length t → k ≤ length t - (i + 2) → (get_or t i 0 ≡ x → ⊥)
        → name_in (drop (i + 2 + k) t) x ≡ name_in t x
    met-other h l e =
        sym (private-row h
        ∙ pick_true _ _ (le-leb (get_or t (i + 1) 0) (length (drop (i + 2) t)) (simp length-drop (omega arith)))
        ∙ pick-false _ _ (ne_eqb (get_or t i 0) x e) ∙ ap (λ (n : ℕ). name_in (drop (i + 2 + n) t) x) (sym kk))
