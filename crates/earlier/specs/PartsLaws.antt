-- Lists of different lengths differ.
use Rattle.std.specs.Prelude.{ℕ, suc, ◌≡◌, refl, List, [], ◌∷◌, false, eqb, length}
use Rattle.std.proofs.Common.{sym, ap}
use Rattle.laws.specs.Tests.{sames}
use Rattle.laws.specs.TestsLaws.{and-not-right}

pub same_length : (a b : List ℕ) → (length a ≡ length b → ⊥) → false ≡ sames a b
unfolding sames
same_length [] [] h = absurd (h refl)
same_length [] (y ∷ b) h = refl
same_length (x ∷ a) [] h = refl
same_length (x ∷ a) (y ∷ b) h =
    let ih : false ≡ sames a b = same_length a b (λ g. h (ap suc g)) in
    rw (← ih) (sym (and-not-right (eqb x y) false refl))
