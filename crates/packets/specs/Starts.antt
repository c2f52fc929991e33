-- The starts of a packet: one handle's turn.
-- Document 01, Watching, by history ("monitors take one packet in handle order, and a start takes its room at once").
-- Assumes nothing.
use Rattle.std.specs.Prelude.{◌≡◌, ℕ, ◌+◌, ◌*◌, ◌<◌, true, false, List, length}
use Rattle.model.specs.Types.{Model, Packet, Pair, device_of, with_lists}
use Rattle.model.specs.Watch.{holds}
use Rattle.model.specs.Block.{padded}
use Rattle.blocks.specs.Block.{Measured}
use Rattle.steps.specs.Typed.{Sent}
use Rattle.marks.specs.Marks.{opens, sifted}
use Rattle.packets.specs.Changes.{after, start_events}
use Rattle.packets.specs.Keys.{device_number}
use Rattle.packets.specs.Writes.{PutAt}
use Rattle.model.specs.Layout.{most_monitors}

-- s is the block of the state m, with n pairs
pub record Holding (m : Model) (s : List ℕ) (n : ℕ) : Type 0 where
  pub measured : Measured m
  pub block : s ≡ padded m
  pub count : n ≡ length m.pairs

-- what the start of a handle's pair is given
pub record Sought (p : Packet) (h key : ℕ) : Type 0 where
  pub sent : Sent p
  pub low : h < most_monitors
  pub number : key ≡ h + 256 * device_number p

-- what a turn leaves: the block of the state with these pairs, and their number
pub record Turned (m : Model) (qs : List Pair) (s : List ℕ) (n : ℕ) : Type 0 where
  pub block : s ≡ padded (with_lists m m.mons qs)
  pub count : n ≡ length qs

-- and what it writes
pub record Told (m : Model) (a h : ℕ) (p : Packet) (s : List ℕ) (n : ℕ) (out : List ℕ) (at : ℕ) (wrote : List ℕ)
    (r : ℕ) : Type 0 where
  pub turned : Turned m (after a h p m.pairs) s n
  pub answer : PutAt out at (start_events m.prefix a h p m.pairs) wrote r

-- what a start is given: the key of its pair, which is not held, the packet's RSSI, an octet that says so and that
-- the monitor filters no duplicates
pub record Asked (m : Model) (p : Packet) (a h key o : ℕ) : Type 0 where
  pub sought : Sought p h key
  pub rssi : o ≡ p.rssi
  pub strong : opens a ≡ true
  pub plain : sifted a ≡ false
  pub free : holds m.pairs h (device_of p) ≡ false
