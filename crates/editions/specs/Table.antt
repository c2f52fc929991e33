-- A table of rows of one size, zeros behind each and empty rows behind all: its length, its rows, and what is read
-- from it. Over any element, its row and its reading. Assumes nothing.
use Rattle.std.specs.Prelude.{ℕ, ◌-◌, ◌*◌, List, ◌++◌, map, length, replicate}
use Rattle.laws.specs.Rows.{flat}
use Rattle.model.specs.Block.{pad_to}

-- the table, and its rows: the elements' and then empty ones
module _ {A : Type 0} (size most : ℕ) (line : A → List ℕ) where
  unfoldable pub table_of : List A → List ℕ
  table_of l = flat (map (λ (a : A). pad_to size (line a)) l) ++ replicate (size * (most - length l)) 0

  abbrev pub places_of : List A → List (List ℕ)
  places_of l = map (λ (a : A). pad_to size (line a)) l ++ replicate (most - length l) (replicate size 0)
