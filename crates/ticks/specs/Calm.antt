-- Rows of which a tick tells nothing: a turn leaves such a row at its place, one tick further. Document 01, Watching,
-- by history (Tick). Assumes nothing.
use Rattle.std.specs.Prelude.{ℕ, ◌+◌, ◌-◌, ◌≤◌, ◌≡◌, true, false, List, length, get_or}
use Rattle.laws.specs.Rows.{row}
use Rattle.ticks.specs.Row.{closes_at, goes_on, ticked_row, run_in, period_in, kept_at, told_at}
use Rattle.ticks.specs.Table.{Passed}
use Rattle.model.specs.Layout.{most_prefix, ticks_at}

-- what the turns of such rows from an index on leave, where so many rows stayed before
abbrev pub CalmOn : List ℕ → List ℕ → List ℕ → List ℕ → ℕ → ℕ → ℕ → Type 0
CalmOn intervals periods t l from kept r =
    (t₀ out₀ out filters prefix : List ℕ) (w : ℕ) → length prefix ≤ most_prefix
    → Passed t₀ t out₀ out kept w (kept_at intervals periods t₀) (told_at intervals periods filters prefix t₀) from
    → Passed t₀ l out₀ out (kept + (r - from)) w (kept_at intervals periods t₀)
    (told_at intervals periods filters prefix t₀) r

-- a row of which nothing is told, and what it is then
pub record CalmRow (intervals periods r l : List ℕ) : Type 0 where
  pub on : goes_on (run_in intervals r) r ≡ true
  pub still : closes_at (period_in periods r) (get_or r ticks_at 0) ≡ false
  pub row : l ≡ ticked_row (period_in periods r) r

-- a row whose window does not close, and what it is then
pub record StillRow (period : ℕ) (r l : List ℕ) : Type 0 where
  pub unclosed : closes_at period (get_or r ticks_at 0) ≡ false
  pub ticked : l ≡ ticked_row period r
