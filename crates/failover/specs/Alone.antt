-- A state with one edition, that of its settings, is a state of document 01: it answers what the state without
-- editions does and goes on as it does; its image has the one A4 line more. So what is shown of sessions without
-- editions holds of sessions without additions. Document 02, T-12. Assumes nothing.
use Rattle.std.specs.Prelude.{ℕ, List, [], ◌∷◌}
use Rattle.model.specs.Types.{Model}
use Rattle.editions.specs.Editions.{Edition, Gateway, edition_row}

-- its image: the A4 line behind the first
unfoldable pub line_only : List ℕ → List ℕ
line_only prefix = 0xA4 ∷ edition_row (record { from = 0; prefix = prefix })

-- the one edition of a state, and the state with it
unfoldable pub only : Model → Edition
only m = record { from = 0; prefix = m.prefix }

unfoldable pub alone : Model → Gateway
alone m = record { core = m; editions = only m ∷ [] }
