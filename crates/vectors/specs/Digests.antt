-- Digests of octets, and counts. Definitions alone.
use Rattle.std.specs.Prelude.{ℕ, ◌+◌, ◌*◌, ◌%◌}

-- the largest prime below 2^54
abbrev pub prime : ℕ
prime = 18014398509481951

-- octets are counted modulo this
abbrev pub counted : ℕ
counted = 1000000000

-- a digest with one number more, of which the lowest octet counts
unfoldable pub mixed : ℕ → ℕ → ℕ
mixed d x = ((d % prime) * 257 + x % 256 + 1) % prime

-- a count with n more
unfoldable pub sum_of : ℕ → ℕ → ℕ
sum_of c n = (c % counted + n % counted) % counted
