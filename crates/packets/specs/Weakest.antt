-- The pair that goes: the first of the rows that keep the smallest RSSI, found by a loop over the rows, is the one
-- that the model names. Document 02, T-05 ("that pair (the earliest started if several) gets its stop event").
-- Assumes nothing.
use Rattle.std.specs.Prelude.{ℕ, zero, suc, ◌+◌, ◌*◌, List, nat_lt, slice_index}
use Rattle.laws.specs.Tests.{pick}
use Rattle.model.specs.Level.{level}
use Rattle.model.specs.Layout.{pair_size, pairs_at, rssi_at}

-- the level that row i of a block keeps
unfoldable pub level_at : List ℕ → ℕ → ℕ
level_at s i = level (slice_index s (pairs_at + pair_size * i + rssi_at))

-- the first of the rows below n that keep the smallest level
unfoldable pub weakest_below : List ℕ → ℕ → ℕ
weakest_below s zero = 0
weakest_below s (suc n) = pick (nat_lt (level_at s n) (level_at s (weakest_below s n))) n (weakest_below s n)
