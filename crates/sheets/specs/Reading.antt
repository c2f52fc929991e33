-- A text of rows read: the turns of the loops, and the end. Assumes nothing.
use Rattle.std.specs.Prelude.{ℕ, ◌≤◌, ◌≡◌, List, map, ℤ, length, drop}
use Rattle.totals.specs.declared.Row.{Row}
use Rattle.sheets.specs.Sheet.{behind, count_at, sum_at, row_of, line_behind, parsed}
use Rattle.sheets.specs.Least.{least, least_sum, least_row}

pub record Counted (t : List ℕ) (at value next : ℕ) : Type 0 where
  pub is : value ≡ least (count_at (drop at t))
  pub rest : drop next t ≡ behind (drop at t)
  pub low : next ≤ length t

-- a sum at a place
pub record Summed (t : List ℕ) (at : ℕ) (value : ℤ) (next : ℕ) : Type 0 where
  pub is : value ≡ least_sum (sum_at (drop at t))
  pub rest : drop next t ≡ behind (drop at t)
  pub low : next ≤ length t

-- a line at a place
pub record Lined (t : List ℕ) (at : ℕ) (row : Row) (next : ℕ) : Type 0 where
  pub is : row ≡ least_row (row_of (drop at t))
  pub rest : drop next t ≡ line_behind (drop at t)
  pub low : next ≤ length t

-- the rows of a text, held
unfoldable pub held : List ℕ → List Row
held t = map least_row (parsed t)
