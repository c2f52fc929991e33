-- A text of rows written: pieces one behind another, and the loop over the rows. Assumes nothing.
use Rattle.std.specs.Prelude.{ℕ, List, [], ◌∷◌, ◌++◌, ℤ}
use Rattle.decimals.specs.Decimals.{decimal}
use Rattle.sheets.specs.Sheet.{signed}

-- a number and the octet behind it; a sum and its LF
unfoldable pub count_then : ℕ → ℕ → List ℕ
count_then n e = decimal n ++ (e ∷ [])

unfoldable pub sum_then : ℤ → List ℕ
sum_then z = signed z ++ (10 ∷ [])
