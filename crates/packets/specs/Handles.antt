-- The loop over the handles: what their turns leave and write, one after another. Document 01, Watching, by history
-- ("monitors take one packet in handle order, and a start takes its room at once"); document 02, T-05. Assumes
-- nothing.
use Rattle.std.specs.Prelude.{◌≡◌, ℕ, ◌/◌, ◌%◌, ◌<◌, Bool, List, ◌≢◌, slice_index}
use Rattle.laws.specs.Loops.{some as some_of}
use Rattle.model.specs.Types.{Model, Packet}
use Rattle.model.specs.Watch.{turns, turns_answer, starts_below, start_told}
use Rattle.packets.specs.Writes.{PutAt}
use Rattle.packets.specs.Starts.{Turned}

-- no octet below an index says that its handle may start a pair
abbrev pub NoStart : List ℕ → ℕ → Type 0
NoStart acts n = (h : ℕ) → h < n → slice_index acts h / 4 % 2 ≢ 1

-- what the turns of the handles below h leave and write
pub record Turns (m : Model) (p : Packet) (h : ℕ) (s : List ℕ) (n : ℕ) (out wrote : List ℕ) (w : ℕ) (t : Bool) : Type
    0 where
  pub turned : Turned m (turns m.mons p h m.pairs) s n
  pub answer : PutAt out 0 (turns_answer m.prefix m.mons p h m.pairs) wrote w
  pub tells : t ≡ some_of (start_told m.mons p) (starts_below m.mons p h m.pairs)
