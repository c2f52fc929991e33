-- Pairs that are each held once, of handles that there are: what a bit of an index that is met twice tells. Document
-- 01, The image ("pairs distinct"). Assumes nothing.
use Rattle.std.specs.Prelude.{Bool, ◌&&◌, List, ltb}
use Rattle.laws.specs.Loops.{every}
use Rattle.model.specs.Types.{Pair}
use Rattle.model.specs.Sound.{apart}
use Rattle.model.specs.Layout.{most_monitors}

-- of a handle below 16
unfoldable pub is_low : Pair → Bool
is_low q = ltb q.handle most_monitors

-- each of such a handle, and held once
unfoldable pub once : List Pair → Bool
once qs = every is_low qs && apart qs
