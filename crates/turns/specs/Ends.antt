-- A takeover in turns ends: each turn ends it, or takes octets of the journal, or a whole line of what is held, or
-- goes back to reading. So it has at most twice as many turns as the journal has octets, and one, where the output
-- has room for one answer. Assumes nothing.
use Rattle.std.specs.Prelude.{Bool, true, false}
use Rattle.turns.specs.Takeover.{Next, reads, again, ended, stopped}

-- a takeover that has ended: no further turn is made
unfoldable pub is_over : Next → Bool
is_over reads = false
is_over again = false
is_over ended = true
is_over (stopped k) = true
