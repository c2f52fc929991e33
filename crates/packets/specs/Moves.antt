-- The held pairs over a packet, one row after another: what one row's turn leaves, and the turn of the loop over them.
-- Document 01, Watching, by history. Assumes nothing.
use Rattle.std.specs.Prelude.{◌≡◌, ℕ, ◌<◌, List, length, slice_index_or, slice_set}
use Rattle.model.specs.Types.{Model, Pair, with_lists}
use Rattle.model.specs.Block.{padded}
use Rattle.blocks.specs.Block.{Measured}
use Rattle.packets.specs.Writes.{no_pair}

-- pair i of a state, and the state with another in its place
unfoldable pub pair_at : Model → ℕ → Pair
pair_at m i = slice_index_or m.pairs i no_pair

unfoldable pub with_pair : Model → ℕ → Pair → Model
with_pair m i q = with_lists m m.mons (slice_set m.pairs i q)

-- s is the block of the state m, and m has a pair i
pub record AtPair (m : Model) (s : List ℕ) (i : ℕ) : Type 0 where
  pub measured : Measured m
  pub block : s ≡ padded m
  pub within : i < length m.pairs
