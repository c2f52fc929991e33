-- The arithmetic of levels: what is said in dBm and of signed sums, over natural numbers, as code computes it. The laws
-- of order, range and sum hold for all numbers, octets or not; those of the mean for sums of 8 octets. Assumes nothing.
use Rattle.std.specs.Prelude.{ℕ, ◌+◌, ◌%◌}
use Rattle.model.specs.Level.{level}

-- an RSSI octet as a number of 8 octets in two's complement; a sum with one RSSI more
unfoldable pub extended : ℕ → ℕ
extended o = (level o + 18446744073709551488) % 18446744073709551616
