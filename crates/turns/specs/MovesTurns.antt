-- What a turn on what is held counts for, in the proof that a takeover ends.
use Rattle.std.specs.Prelude.{ℕ}
use Rattle.turns.specs.Takeover.{Next, reads, again, ended, stopped}

-- a turn on what is held is one more that may come
unfoldable pub weight : Next → ℕ
weight reads = 0
weight again = 1
weight ended = 0
weight (stopped k) = 0
