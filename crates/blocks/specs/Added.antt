-- The added parameters of a monitor's row (document 02, T-13), read octet by octet: those of version 1 where
-- Monitor_options is 0. Assumes nothing.
use Rattle.std.specs.Prelude.{ℕ, List, eqb, take, drop}
use Rattle.laws.specs.Tests.{pick}
use Rattle.model.specs.Layout.{extra_at, extra_size}

-- the octets of the row, as they stand
abbrev pub added_in : List ℕ → List ℕ
added_in r = take extra_size (drop extra_at r)

-- the report filtering that holds, from the octets of Monitor_options and of report filtering
unfoldable pub filtering_of : ℕ → ℕ → ℕ
filtering_of options bits = pick (eqb options 0) 6 bits
