-- One edition more behind those of a block, and the number of the last. Document 02, T-12. Assumes nothing.
use Rattle.std.specs.Prelude.{ℕ, ◌+◌, ◌*◌, Bool, ◌&&◌, List, [], ◌∷◌, leb, ltb, eqb, length}
use Rattle.laws.specs.Put.{put}
use Rattle.laws.specs.Tests.{pick}
use Rattle.model.specs.Layout.{most_prefix}
use Rattle.editions.specs.Editions.{last_from, edition_row, most_editions}
use Rattle.editions.specs.Block.{edition_size}
use Rattle.wholes.specs.Layout.{editions_at, editions_count_at, whole_size}
use Rattle.prefixes.specs.Held.{listed, edition_count}

-- the number of the last edition of a block; 0 where there is none or the block has another size
unfoldable pub last_in : List ℕ → ℕ
last_in s = pick (eqb (length s) whole_size) (last_from 0 (listed s)) 0

-- whether there is room for one more with this prefix, and the block with it
unfoldable pub can_push : List ℕ → List ℕ → Bool
can_push s p = eqb (length s) whole_size && (leb (length p) most_prefix && ltb (edition_count s) most_editions)

unfoldable pub with_one : ℕ → List ℕ → List ℕ → List ℕ
with_one n p s =
    put (put s (editions_at + edition_size * edition_count s) (edition_row (record { from = n; prefix = p })))
    editions_count_at
    ((edition_count s + 1) ∷ [])

unfoldable pub pushed : Bool → ℕ → List ℕ → List ℕ → List ℕ
pushed r n p s = pick r (with_one n p s) s
