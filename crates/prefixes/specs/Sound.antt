-- When the editions of a block are sound: they rise from 0, they stand in it as they ought to, and the head has the
-- prefix in force at the position. Document 02, T-12; document 01, The image ("every unused octet and place of the
-- state 0"). Assumes nothing.
use Rattle.std.specs.Prelude.{ℕ, Bool, false, ◌&&◌, List, [], ◌∷◌, eqb, length}
use Rattle.editions.specs.Editions.{Edition, rising}
use Rattle.wholes.specs.Layout.{whole_size}
use Rattle.wholes.specs.Laid.{sound_prefixes}

-- the first from 0 on, the others rising
unfoldable pub starts_rising : List Edition → Bool
starts_rising [] = false
starts_rising (e ∷ es) = eqb e.from 0 && rising 0 es

-- a block has its size and sound editions
unfoldable pub is_prefixed : List ℕ → Bool
is_prefixed s = eqb (length s) whole_size && sound_prefixes s
