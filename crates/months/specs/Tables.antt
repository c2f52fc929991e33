-- Tables of rows by handle: sums of tables, row by row. Assumes nothing.
use Rattle.std.specs.Prelude.{ℕ, List, [], ◌∷◌}
use Rattle.laws.specs.Loops.{up_to}
use Rattle.totals.specs.declared.Row.{Row}

-- a table of n rows, by what stands at each handle
unfoldable pub table_of : (ℕ → Row) → ℕ → List Row
table_of f n = up_to (λ h. f h ∷ []) n
