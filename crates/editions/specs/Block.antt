-- The editions as a block of octets: 32 rows of 37, as A4 lines have them, unused octets and rows 0, and their
-- number. Document 02, T-12; document 01, The image ("every unused octet and place of the state 0"). Assumes nothing.
use Rattle.std.specs.Prelude.{ℕ, ◌+◌, ◌*◌, Bool, ◌&&◌, List, [], ◌∷◌, ◌++◌, map, length, take, get_or}
use Rattle.laws.specs.Tests.{sames}
use Rattle.laws.specs.Rows.{rows}
use Rattle.model.specs.Layout.{most_prefix}
use Rattle.editions.specs.Editions.{Edition, most_editions, sound_editions, edition_row, edition_in}
use Rattle.editions.specs.Table.{table_of}

abbrev pub edition_size : ℕ
edition_size = 5 + most_prefix

-- the longest A4 line: the octet that names it and the row, two digits an octet, and its LF
abbrev pub edition_line : ℕ
edition_line = 2 * (1 + edition_size) + 1

abbrev pub edition_count_at : ℕ
edition_count_at = edition_size * most_editions

unfoldable pub edition_block : List Edition → List ℕ
edition_block es = table_of edition_size most_editions edition_row es ++ (length es ∷ [])

-- the editions that octets hold, whatever they are; they are sound where those are and it is their block
unfoldable pub editions_of : List ℕ → List Edition
editions_of t = map edition_in (take (get_or t edition_count_at 0) (rows edition_size most_editions t))

unfoldable pub sound_block : List ℕ → Bool
sound_block t = sound_editions (editions_of t) && sames (edition_block (editions_of t)) t

-- its size
abbrev pub editions_size : ℕ
editions_size = edition_count_at + 1
