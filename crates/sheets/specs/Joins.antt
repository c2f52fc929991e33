-- Sixteen rows of one site joined with sixteen of another (document 02, T-10): which join is refused first, and the
-- rows. Assumes nothing.
use Rattle.std.specs.Prelude.{ℕ, suc, List, [], ◌∷◌, replicate, Result, Ok, Err}
use Rattle.laws.specs.Tests.{pick}
use Rattle.totals.specs.declared.Row.{Row}
use Rattle.totals.specs.Two.{every_two, map_two}
use Rattle.totals.specs.Table.{table_rows, empty, row_fits, row_sum}

-- the first handle whose join is refused; as many as there are rows where none is
unfoldable pub first_off : List Row → List Row → ℕ
first_off [] d = 0
first_off (a ∷ t) [] = 0
first_off (a ∷ t) (b ∷ d) = pick (row_fits a b) (suc (first_off t d)) 0

-- each two rows joined; all rows empty where one join is refused
unfoldable pub joined_rows : List Row → List Row → List Row
joined_rows t d = pick (every_two row_fits t d) (map_two row_sum t d) (replicate table_rows empty)

-- each two rows joined; the first handle whose join is refused, where one is
unfoldable pub joined : List Row → List Row → Result (List Row) ℕ
joined t d = pick (every_two row_fits t d) (Ok (joined_rows t d)) (Err (first_off t d))
