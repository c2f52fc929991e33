-- Rows that a line can have, with zeros behind them. Document 01, Lines and The image. Assumes nothing.
use Rattle.std.specs.Prelude.{ℕ, ◌≤◌, ◌≡◌, true, List, length}
use Rattle.laws.specs.Loops.{every}
use Rattle.octets.specs.Little.{is_octet}
use Rattle.model.specs.Layout.{line_row}

-- a row with its name that is octets, at most 97
pub record Row (r : List ℕ) : Type 0 where
  pub octets : every is_octet r ≡ true
  pub most : length r ≤ line_row
