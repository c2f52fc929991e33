-- The join of two rows: it is commutative, associative where no sum along the way would pass 64 bits, and the empty
-- row changes nothing. Assumes nothing.
use Rattle.laws.specs.Tests.{pick}
use Rattle.totals.specs.declared.Row.{Row}
use Rattle.totals.specs.Table.{empty, row_fits, row_sum}

-- the sum of two rows, or the empty row where a total would pass 64 bits
unfoldable pub join_of : Row → Row → Row
join_of a b = pick (row_fits a b) (row_sum a b) empty
