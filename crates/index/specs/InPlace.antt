-- The index written in its place in a block: the part of it that is lent for each pair, and the rest, which stays.
-- Document 02, T-02. Assumes nothing.
use Rattle.std.specs.Prelude.{ℕ, ◌≡◌, List, map, take, drop}
use Rattle.laws.specs.Put.{put}
use Rattle.laws.specs.Rows.{rows}
use Rattle.model.specs.Image.{pair_in}
use Rattle.model.specs.Layout.{most_pairs, pair_size, pairs_at, pairs_size}
use Rattle.wholes.specs.Layout.{entries_size, index_at}
use Rattle.wholes.specs.Index.{index_of}
use Rattle.index.specs.Table.{Tabled}

-- the entries' rows of a block, and its pairs' rows
abbrev pub table_in : List ℕ → List ℕ
table_in s = take entries_size (drop index_at s)

abbrev pub pairs_in : List ℕ → List ℕ
pairs_in s = take pairs_size (drop pairs_at s)

-- n pairs of a block are noted, in k entries, and the rest of it is as it was
pub record Stands (n k : ℕ) (s₀ s : List ℕ) : Type 0 where
  pub rest : s ≡ put s₀ index_at (table_in s)
  pub tabled : Tabled (index_of (map pair_in (take n (rows pair_size most_pairs (pairs_in s₀))))) k (table_in s)
