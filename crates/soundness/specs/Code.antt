-- What the functions over rows and monitors owe, as laws over plain values: their returns and the turns of their
-- loops. Assumes nothing.
use Rattle.std.specs.Prelude.{ℕ, ◌+◌, ◌*◌, ◌%◌}

-- how far a sum stands above −127 × packets, where the sum is not below 0 and where it is; the sum is in range where
-- that is at most 147 × packets
unfoldable pub sum_above : ℕ → ℕ → ℕ
sum_above sum packets = (sum + 127 * packets) % 18446744073709551616
