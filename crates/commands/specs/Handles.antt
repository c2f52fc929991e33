-- Which handles are live, and the lowest that is not, read from the monitor rows of a block. Document 01, Commands
-- ("The new handle is the lowest not live"). Assumes nothing.
use Rattle.std.specs.Prelude.{ℕ, zero, suc, ◌+◌, ◌*◌, Bool, false, not, List, ltb, eqb, get_or}
use Rattle.laws.specs.Tests.{pick}
use Rattle.model.specs.Layout.{intervals_at, monitor_size, most_monitors}

-- whether the monitor row of a handle is in use: its interval octet is not 0
unfoldable pub busy_at : List ℕ → ℕ → Bool
busy_at s h = not (eqb (get_or s (intervals_at + monitor_size * h) 0) 0)

-- whether a handle is live; none above 15 is
unfoldable pub live_at : List ℕ → ℕ → Bool
live_at s h = pick (ltb h most_monitors) (busy_at s h) false

-- the lowest handle whose row is not in use, among the n from k on; k + n where there is none
unfoldable pub lowest : List ℕ → ℕ → ℕ → ℕ
lowest s zero k = k
lowest s (suc n) k = pick (busy_at s k) (lowest s n (suc k)) k
