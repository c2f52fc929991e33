-- Reading the lines of a text that was written of rows, one after another: each is found, read and stored, an A4 line
-- behind the other editions, any other in the core. Document 01, Lines and The image; document 02, T-12. Assumes
-- nothing.
use Rattle.std.specs.Prelude.{ℕ, ◌+◌, ◌*◌, ◌≤◌, ◌≡◌, List, [], ◌∷◌, ◌++◌, eqb, ltb, length, take, drop, get_or}
use Rattle.laws.specs.Tests.{pick}
use Rattle.laws.specs.Put.{put}
use Rattle.lines.specs.Hex.{text_of}
use Rattle.model.specs.Block.{pad_to}
use Rattle.model.specs.Layout.{block_size, line_row}
use Rattle.restore.specs.Lines.{stored}
use Rattle.restore.specs.Rows.{Row}
use Rattle.editions.specs.Editions.{most_editions}
use Rattle.editions.specs.Block.{edition_size}
use Rattle.wholes.specs.Layout.{editions_at, editions_count_at}

-- A4: the row behind the editions, and one edition more, where there is room
unfoldable pub stored_edition : List ℕ → List ℕ → List ℕ
stored_edition s r =
    pick (ltb (get_or s editions_count_at 0) most_editions)
    (put (put s (editions_at + edition_size * get_or s editions_count_at 0) r) editions_count_at
    ((get_or s editions_count_at 0 + 1) ∷ [])) s

-- a line by its name: A4 an edition, any other in the core
unfoldable pub stored_on : List ℕ → List ℕ → List ℕ
stored_on s l = pick (eqb (get_or l 0 0) 0xA4) (stored_edition s (take edition_size (drop 1 l)))
    (stored (take block_size s) l ++ drop block_size s)

unfoldable pub stored_all_on : List ℕ → List (List ℕ) → List ℕ
stored_all_on s [] = s
stored_all_on s (r ∷ rs) = stored_all_on (stored_on s (pad_to line_row r)) rs

-- What storing the line at an index leaves: the index that it answers lies within the text; where the text of a row
-- stands, it is the one behind that, and the row is stored_on.
pub record Placed (t : List ℕ) (at : ℕ) (s after : List ℕ) (e : ℕ) : Type 0 where
  pub from : at ≤ e
  pub within : e ≤ length t
  pub row : (r w : List ℕ) → Row r → drop at t ≡ text_of r ++ w
      → (e ≡ at + length (text_of r)) × (after ≡ stored_on s (pad_to line_row r))
