-- Where an event ends. An event is its code, the number of its parameters and the parameters (document 01, Commands
-- and Watching, by history). Assumes nothing.
use Rattle.std.specs.Prelude.{ℕ, ◌+◌, List, length, get_or, leb}
use Rattle.laws.specs.Tests.{pick}

-- an end, if it lies within
unfoldable pub within : ℕ → ℕ → ℕ
within n end = pick (leb end n) end 0

-- the index behind the event at an index: its code, the number and so many parameters; 0 where they do not stand
-- there whole
unfoldable pub behind : List ℕ → ℕ → ℕ
behind xs at = pick (leb (at + 2) (length xs)) (within (length xs) (at + 2 + get_or xs (at + 1) 0)) 0
