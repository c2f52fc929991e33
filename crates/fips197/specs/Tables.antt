-- The table of the code by its rule. The rule is shown for the whole table at once: the table equals what its rule
-- tabulates, which is computed (substitutes of the crate aes); a law then gives the rule at each entry. Assumes
-- nothing.
use Rattle.std.specs.Prelude.{ℕ, zero, suc, ◌≡◌, List, [], ◌∷◌}
use Rattle.fips197.specs.Field.{substitute}

-- f at i, i + 1, .., n places
unfoldable pub tabulate : {A : Type 0} → (ℕ → A) → ℕ → ℕ → List A
tabulate f i zero = []
tabulate f i (suc n) = f i ∷ tabulate f (suc i) n

-- 5.1.1, table 4: the substitutes of 0 to 255
unfoldable pub IsTable : List ℕ → Type 0
IsTable t = t ≡ tabulate substitute 0 256
