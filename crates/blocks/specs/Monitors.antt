-- The monitor table of the block: its length, its rows, the monitors read from it, and a row written in it. Document
-- 01, The image (A1; "every unused octet and place of the state 0"). Assumes nothing.
use Rattle.std.specs.Prelude.{ℕ, ◌≤◌, ◌≡◌, List, ◌++◌, length}
use Rattle.rule.specs.Base.{All}
use Rattle.model.specs.Types.{Monitor}
use Rattle.model.specs.Image.{monitor_row}
use Rattle.model.specs.Block.{pad_to, extra_row}
use Rattle.model.specs.Layout.{extra_at, extra_size, most_condition}

-- conditions of at most 64 octets, 25 octets behind their room: what the rows have room for
pub record Sized (m : Monitor) : Type 0 where
  pub short : length m.condition ≤ most_condition
  pub extra : length (extra_row m.extra) ≡ extra_size

abbrev pub Short : List (ℕ × Monitor) → Type 0
Short l = All (λ x. Sized x.1) l

-- every row has 96 octets: A1's fields with the room of the condition, and what is added
abbrev pub row_of : ℕ → Monitor → List ℕ
row_of h m = pad_to extra_at (monitor_row (h, m)) ++ extra_row m.extra
