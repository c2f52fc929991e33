-- Laws of `cut`: a text of whole lines is cut into those lines, and a final piece without LF is not read.
-- From document 01, Lines.
use Rattle.std.specs.Prelude.{◌≡◌, refl, ◌≢◌, ℕ, zero, suc, drop}
use Rattle.std.proofs.Common.{ap, ◌∙◌, ne_eqb}
use mathlib.Core.List.{List, [], ◌∷◌, ◌++◌, append_assoc, append-nil, flatten, map}
use Rattle.lines.specs.Hex.{lf}
use Rattle.sessions.specs.Machine.{NoLF, OneLine}
use Rattle.sessions.specs.Saved.{cut, cut_from}

-- Every element ends in its only LF.
abbrev pub AllLines : List (List ℕ) → Type 0
AllLines [] = Unit {0}
AllLines (l ∷ ls) = OneLine l × AllLines ls

cut-other : (p : List ℕ) (c : ℕ) (r : List ℕ) → c ≢ lf → cut_from p (c ∷ r) ≡ cut_from (p ++ (c ∷ [])) r
unfolding cut_from
cut-other p c r h = rw (ne_eqb c lf h, cut_from)

cut-piece : (p q : List ℕ) → NoLF q → cut_from p q ≡ []
unfolding cut_from
cut-piece p [] h = refl
cut-piece p (c ∷ q) h = cut-other p c q h.0 ∙ cut-piece (p ++ (c ∷ [])) q h.1

cut-front : (p f r : List ℕ) → NoLF f → cut_from p (f ++ (lf ∷ r)) ≡ (p ++ (f ++ (lf ∷ []))) ∷ cut_from [] r
unfolding cut_from
cut-front p [] r h = refl
cut-front p (c ∷ f) r h =
    cut-other p c (f ++ (lf ∷ r)) h.0
    ∙ cut-front (p ++ (c ∷ [])) f r h.1
    ∙ ap {B = List (List ℕ)} (λ l. l ∷ cut_from [] r) (append_assoc p (c ∷ []) (f ++ (lf ∷ [])))

cut_all : (ls : List (List ℕ)) (q : List ℕ) → AllLines ls → NoLF q → cut_from [] (flatten ls ++ q) ≡ ls
unfolding flatten
cut_all [] q h k = cut-piece [] q k
cut_all (l ∷ ls) q h k = go h.0.front h.0.clear h.0.whole (cut_all ls q h.1 k)
  where
    joined : (f : List ℕ) → ((f ++ (lf ∷ [])) ++ flatten ls) ++ q ≡ f ++ (lf ∷ (flatten ls ++ q))
    joined f = append_assoc (f ++ (lf ∷ [])) (flatten ls) q ∙ append_assoc f (lf ∷ []) (flatten ls ++ q)

    go :
        (f : List ℕ) → NoLF f → l ≡ f ++ (lf ∷ []) → cut_from [] (flatten ls ++ q) ≡ ls
        → cut_from [] ((l ++ flatten ls) ++ q) ≡ l ∷ ls
    go f c e ih = rw (e, joined f, cut-front [] f (flatten ls ++ q) c, ih)

-- A text of whole lines and a final piece is cut into the lines.
pub cut-torn : (ls : List (List ℕ)) (q : List ℕ) → AllLines ls → NoLF q → cut (flatten ls ++ q) ≡ ls
unfolding cut
cut-torn ls q h k = cut_all ls q h k

-- A text of whole lines is cut into them.
pub cut-lines : (ls : List (List ℕ)) → AllLines ls → cut (flatten ls) ≡ ls
cut-lines ls h = rw (← (append-nil (flatten ls))) (cut-torn ls [] h tt)

-- All but the first i of the images of a list.
pub drop-map {ℓ} : {A B : Type ℓ} (f : A → B) (i : ℕ) (l : List A) → drop i (map f l) ≡ map f (drop i l)
drop-map f zero l = refl
drop-map f (suc i) [] = refl
drop-map f (suc i) (x ∷ l) = drop-map f i l
