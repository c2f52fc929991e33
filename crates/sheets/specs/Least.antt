-- Numbers as a machine of 64 bits holds them while it reads: one that passes 64 bits is held at the end of its range.
-- Assumes nothing.
use Rattle.std.specs.Prelude.{ℕ, ◌+◌, ◌*◌, leb, ℤ, pos, negsuc}
use Rattle.laws.specs.Tests.{pick}
use Rattle.decimals.specs.Decimals.{top}
use Rattle.totals.specs.declared.Row.{Row}

-- the greatest sum of 64 bits; the least is one further from zero
abbrev pub most : ℕ
most = 9223372036854775807

unfoldable pub up_to : ℕ → ℕ → ℕ
up_to m n = pick (leb n m) n m

unfoldable pub least : ℕ → ℕ
least n = up_to top n

unfoldable pub least_sum : ℤ → ℤ
least_sum (pos n) = pos (up_to most n)
least_sum (negsuc n) = negsuc (up_to most n)

unfoldable pub least_row : Row → Row
least_row r = record {
  packets = least r.packets;
  reports = least r.reports;
  ticks = least r.ticks;
  sum = least_sum r.sum;
}

-- a digit behind a value, and digits behind it
unfoldable pub grown : ℕ → ℕ → ℕ
grown v d = least (v * 10 + d)
