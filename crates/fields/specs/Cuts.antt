-- Octets cut into pieces one behind another, each as long as a rule says of what is left. Definitions, and the turn
-- of a loop over them. Assumes nothing.
use Rattle.std.specs.Prelude.{ℕ, zero, suc, ◌-◌, List, [], ◌∷◌, ◌++◌, take}

-- the pieces of octets, so many of them passed over
unfoldable pub cut_from : (List ℕ → ℕ) → List ℕ → ℕ → List (List ℕ)
cut_from f [] n = []
cut_from f (x ∷ s) (suc n) = cut_from f s n
cut_from f (x ∷ s) zero = take (f (x ∷ s)) (x ∷ s) ∷ cut_from f s (f (x ∷ s) - 1)

-- the words of pieces
unfoldable pub each : (List ℕ → List ℕ) → List (List ℕ) → List ℕ
each f [] = []
each f (p ∷ l) = f p ++ each f l

-- the words of the pieces of octets
unfoldable pub all_of : (List ℕ → ℕ) → (List ℕ → List ℕ) → List ℕ → List ℕ
all_of size f s = each f (cut_from size s 0)
