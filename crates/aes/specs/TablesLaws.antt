-- A table is one in one way only: what the table's struct asks of the fact that it holds. Assumes nothing.
use Rattle.std.specs.Prelude.{ℕ, List}
use Rattle.std.proofs.Props.{props}
use Rattle.fips197.specs.Tables.{IsTable}

pub IsTable-prop : (t : List ℕ) → IsProp (IsTable t)
unfolding IsTable
IsTable-prop t = hlevel props
