-- The editions of a block held to what ought to stand there, row by row. Document 02, T-12; document 01, The image
-- ("every unused octet and place of the state 0"). Assumes nothing.
use Rattle.std.specs.Prelude.{ℕ, List}
use Rattle.model.specs.Block.{pad_to}
use Rattle.editions.specs.Editions.{Edition, edition_row}
use Rattle.editions.specs.Block.{edition_size}

-- an edition's place in the table
abbrev pub placed : Edition → List ℕ
placed e = pad_to edition_size (edition_row e)
