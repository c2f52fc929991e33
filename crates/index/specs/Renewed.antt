-- The index of a block of any octets: whether it is that of the pairs held, and the block with it. Document 02, T-02.
-- Assumes nothing.
use Rattle.std.specs.Prelude.{ℕ, Bool, true, false, ◌&&◌, List, eqb, length, take, drop, get_or}
use Rattle.laws.specs.Put.{put}
use Rattle.laws.specs.Tests.{pick, sames}
use Rattle.octets.specs.Numbers.{number_at}
use Rattle.model.specs.Block.{model_of}
use Rattle.model.specs.Layout.{count_at}
use Rattle.wholes.specs.Layout.{index_at, index_size, whole_size}
use Rattle.wholes.specs.Index.{index_block}
use Rattle.wholes.specs.Kept.{pair_event}
use Rattle.index.specs.Once.{once}

-- a block of its size, with the index of the pairs that it holds
unfoldable pub is_indexed : List ℕ → Bool
is_indexed s = eqb (length s) whole_size && sames (index_block (model_of s).pairs) (take index_size (drop index_at s))

-- .. and that holds each pair once, of a handle that there is
unfoldable pub indexed_once : List ℕ → Bool
indexed_once s = is_indexed s && once (model_of s).pairs

-- a block with that index; one of another size as it is
unfoldable pub renewed : List ℕ → List ℕ
renewed s = pick (eqb (length s) whole_size) (put s index_at (index_block (model_of s).pairs)) s

-- whether a frame that wrote n octets at an output's start, with so many pairs held before it, started or ended a
-- pair: another number is held now, or the answer opens with an event of a pair
unfoldable pub is_moved : ℕ → List ℕ → ℕ → List ℕ → Bool
is_moved before out n s =
    pick (eqb (get_or s count_at 0) before) (pick (eqb n 0) false (eqb (number_at 1 out 0) pair_event)) true

-- the block after such a frame, with the index worked out again only where a pair started or ended
unfoldable pub followed : ℕ → List ℕ → ℕ → List ℕ → List ℕ
followed before out n s = pick (is_moved before out n s) (renewed s) s
