-- The prefix in a block's head and in an edition's row: its length and its octets, zeros behind them. Document 02,
-- T-12. Assumes nothing.
use Rattle.std.specs.Prelude.{ℕ, ◌+◌, List, ◌∷◌, length}
use Rattle.model.specs.Block.{pad_to}
use Rattle.model.specs.Layout.{most_prefix}

-- length and octets, zeros behind them
abbrev pub prefix_size : ℕ
prefix_size = 1 + most_prefix

unfoldable pub prefix_row : List ℕ → List ℕ
prefix_row p = length p ∷ pad_to most_prefix p
