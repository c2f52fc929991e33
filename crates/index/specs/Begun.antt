-- The whole block of a fresh state: no entry, one edition. Document 01, Sizes of the gateway (settings at start);
-- document 02, T-02, T-12. Assumes nothing.
use Rattle.std.specs.Prelude.{ℕ, ◌+◌, List, [], ◌∷◌, eqb, length, take, drop}
use Rattle.laws.specs.Put.{put}
use Rattle.laws.specs.Tests.{pick}
use Rattle.model.specs.Layout.{prefix_length_at}
use Rattle.wholes.specs.Layout.{editions_at, editions_count_at, whole_size}
use Rattle.wholes.specs.Heads.{prefix_size}
use Rattle.wholes.specs.Whole.{whole}
use Rattle.wholes.specs.Engine.{begin, blank_on}

-- the prefix of a block's head as the edition from 0 on, and one edition
unfoldable pub first_in : List ℕ → List ℕ
first_in s = put (put s (editions_at + 4) (take prefix_size (drop prefix_length_at s))) editions_count_at (1 ∷ [])

-- what a start leaves in the place of another block
unfoldable pub begun_block : List ℕ → ℕ → List ℕ → List ℕ
begun_block s opcode prefix = pick (eqb (length s) whole_size) (begin opcode prefix) s

unfoldable pub blank_in : List ℕ → List ℕ
blank_in s = pick (eqb (length s) whole_size) (whole blank_on) s
