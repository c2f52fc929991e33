-- A cancel on the block of a state: the pair rows compacted, the freed rows cleared, the number of pairs, and the
-- monitor's row. Document 01, Commands ("Cancelling forgets the monitor and its pairs and writes no stop event (H)").
-- Assumes nothing.
use Rattle.std.specs.Prelude.{ℕ, ◌≤◌, ◌≡◌, List, [], ◌∷◌, length, get_or}
use Rattle.laws.specs.Put.{put}
use Rattle.laws.specs.Loops.{keep}
use Rattle.model.specs.Types.{Pair}
use Rattle.model.specs.Commands.{of_other}
use Rattle.model.specs.Block.{pair_block}
use Rattle.commands.specs.Kept.{Holds, rows_of}
use Rattle.model.specs.Layout.{count_at, pairs_at}

-- the rows of a handle taken out of the first `count` rows
pub record Compacted (h count : ℕ) (s after : List ℕ) (r : ℕ) : Type 0 where
  pub most : r ≤ count
  pub kept : (qs : List Pair) → Holds s qs → count ≡ length qs
      → (r ≡ length (keep (of_other h) qs)) × (after ≡ put s pairs_at (rows_of (keep (of_other h) qs)))

-- the pairs of a handle taken out of the pair rows
pub record Forgotten (h : ℕ) (s after : List ℕ) : Type 0 where
  pub kept : (qs : List Pair) → Holds s qs → get_or s count_at 0 ≡ length qs
      → after ≡ put (put s pairs_at (pair_block (keep (of_other h) qs))) count_at (length (keep (of_other h) qs) ∷ [])
