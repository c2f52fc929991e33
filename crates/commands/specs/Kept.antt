-- The pairs of a cancelled handle taken out of the pair rows, in place: what one row does, the turns of the loop, and
-- the whole. Document 01, Commands ("Cancelling forgets the monitor and its pairs"). Assumes nothing.
use Rattle.std.specs.Prelude.{ℕ, ◌+◌, ◌*◌, ◌≤◌, ◌≡◌, Bool, not, List, ◌++◌, map, eqb, length, take, drop, get_or}
use Rattle.laws.specs.Tests.{pick}
use Rattle.laws.specs.Loops.{when}
use Rattle.laws.specs.Rows.{flat}
use Rattle.rule.specs.Base.{All}
use Rattle.model.specs.Types.{Pair}
use Rattle.model.specs.Image.{pair_row}
use Rattle.model.specs.Block.{pad_to, pair_block}
use Rattle.blocks.specs.Bounds.{Fits}
use Rattle.model.specs.Layout.{most_pairs, pair_size, pairs_at}

-- whether an octet is another handle
unfoldable pub other : ℕ → ℕ → Bool
other h x = not (eqb h x)

-- what is written of pair row i: the row, or nothing where it is of the handle; and how many rows that is
unfoldable pub kept_octets : ℕ → List ℕ → ℕ → List ℕ
kept_octets h s i = when (other h (get_or s (pairs_at + pair_size * i) 0)) (take pair_size (drop (pairs_at + pair_size * i) s))

unfoldable pub kept_count : ℕ → List ℕ → ℕ → ℕ
kept_count h s i = pick (other h (get_or s (pairs_at + pair_size * i) 0)) 1 0

-- rows of pairs, one after another
unfoldable pub rows_of : List Pair → List ℕ
rows_of qs = flat (map (λ (q : Pair). pad_to pair_size (pair_row q)) qs)

-- the pair rows of a block are these pairs'
pub record Holds (s : List ℕ) (qs : List Pair) : Type 0 where
  pub fit : All Fits qs
  pub most : length qs ≤ most_pairs
  pub rest : List ℕ
  pub table : drop pairs_at s ≡ pair_block qs ++ rest
