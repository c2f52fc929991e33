-- What the walk over the pairs says of a table: where it stops, the table is not that of the pairs, or one of them is
-- no pair or is held twice; where it ends, the table is that of the pairs where the masks are the same and zeros
-- stand behind its entries. Document 02, T-02. Assumes nothing.
use Rattle.std.specs.Prelude.{ℕ, ◌≡◌, true, List, map, take, Option, Some, None}
use Rattle.laws.specs.Rows.{rows}
use Rattle.model.specs.Types.{Pair}
use Rattle.model.specs.Image.{pair_in}
use Rattle.model.specs.Layout.{most_pairs, pair_size}
use Rattle.wholes.specs.Index.{index_of, entry_table}
use Rattle.index.specs.Once.{once}
use Rattle.index.specs.Walk.{Tallied}

-- what the walk answers for pairs
abbrev pub Fails : List Pair → List ℕ → Type 0
Fails qs t = t ≡ entry_table (index_of qs) → once qs ≡ true → ⊥

abbrev pub Walks : List Pair → List ℕ → List ℕ → Option ℕ → Type 0
Walks qs t masks None = Fails qs t
Walks qs t masks (Some k) = Tallied (index_of qs) k t masks × (once qs ≡ true)

-- the first n rows of a table of pairs
abbrev pub pairs_of : ℕ → List ℕ → List Pair
pairs_of n ps = map pair_in (take n (rows pair_size most_pairs ps))
