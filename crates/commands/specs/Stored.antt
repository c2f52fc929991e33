-- A monitor's row, written field by field. Document 01, Commands (03) and The image (A1); document 02, T-13 (0F, A5).
-- Assumes nothing.
use Rattle.std.specs.Prelude.{ℕ, ◌+◌, ◌-◌, ◌≤◌, ◌<◌, ◌≡◌, List, [], ◌∷◌, ◌++◌, length, take, drop, get_or, replicate}
use Rattle.model.specs.Monitors.{type_in}
use Rattle.model.specs.Layout.{extra_size, most_condition, second_type_in}

-- the parameters of a monitor's command that was accepted, whose condition type stands at an index
pub record Enough (at : ℕ) (l : List ℕ) : Type 0 where
  pub place : at ≡ type_in l
  pub least : 5 ≤ at
  pub last : at ≤ second_type_in
  pub type : at < length l
  pub most : length l ≤ at + 1 + most_condition

-- A1's fields and the rest of the condition's room; what is added, and zeros
unfoldable pub fields_of : ℕ → ℕ → List ℕ → List ℕ
fields_of h at l =
    (h ∷ take 4 (drop 1 l)) ++ (get_or l at 0 ∷ []) ++ ((length l - at - 1) ∷ []) ++ drop (at + 1) l
    ++ replicate (most_condition - (length l - at - 1)) 0

unfoldable pub added_of : ℕ → List ℕ → List ℕ
added_of at l = take (at - 5) (drop 5 l) ++ replicate (extra_size - (at - 5)) 0
