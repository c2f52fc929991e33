-- Where a visit's bar and the axis' marks stand, from their ticks. Definitions, and the laws of their branches.
-- Assumes nothing.
use Rattle.std.specs.Prelude.{ℕ, ◌+◌, ◌-◌, ◌*◌, ◌/◌, ◌%◌, max, leb, eqb}
use Rattle.laws.specs.Tests.{pick}

-- an axis of 1,000: a tick stands as far along it as it is far in the span, rounded down; the span's end and what is
-- behind it at its end
unfoldable pub across_of : ℕ → ℕ → ℕ
across_of tick span = pick (leb span tick) 1000 (tick * 1000 / span)

-- a bar is at least 2 wide
unfoldable pub wide_of : ℕ → ℕ → ℕ
wide_of from to = max (to - from) 2

-- the first of three steps that is at least the span's twelfth; a fourth where none is
unfoldable pub fit_of : ℕ → ℕ → ℕ → ℕ → ℕ → ℕ
fit_of span a b c other = pick (leb (span / 12) a) a (pick (leb (span / 12) b) b (pick (leb (span / 12) c) c other))

-- 1, 5, 10, 30 seconds, 1, 5, 10, 30 minutes, 1, 2, 6, 12 hours, or so many days; a second is 10 ticks, a day 864,000
unfoldable pub step_of : ℕ → ℕ
step_of span =
    fit_of span 10 50 100
    (fit_of span 300 600 3000
    (fit_of span 6000 18000 36000 (fit_of span 72000 216000 432000 ((span / 12 / 864000 + 1) * 864000))))

-- marks stand at whole steps of the time of day
unfoldable pub first_of : ℕ → ℕ → ℕ
first_of from step = pick (eqb step 0) 0 ((step - from % step) % step)
