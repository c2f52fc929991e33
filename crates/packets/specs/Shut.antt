-- Where no pair can start: the table is full and no pair keeps less than the packet's RSSI. Then no turn changes the
-- pairs, and what the monitors of other pairs would say matters to nothing. Document 02, T-05. Assumes nothing.
use Rattle.std.specs.Prelude.{ℕ, ◌<◌, ◌≤◌, List}
use Rattle.model.specs.Level.{level}
use Rattle.packets.specs.Weakest.{level_at}
use Rattle.model.specs.Layout.{most_pairs}

-- no row below n keeps less than a level
abbrev pub NoneLess : List ℕ → ℕ → ℕ → Type 0
NoneLess s l n = (j : ℕ) → j < n → l ≤ level_at s j

-- what is known where no pair of an RSSI can start behind n pairs
abbrev pub Shut : List ℕ → ℕ → ℕ → Type 0
Shut s n r = (most_pairs ≤ n) × NoneLess s (level r) most_pairs
