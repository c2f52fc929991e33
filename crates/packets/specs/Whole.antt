-- The whole of a packet's step: what a sound state and a packet frame give the loops, and how the parts of the answer
-- and of the block are put together. Document 01, Lines (02), Watching, by history. Assumes nothing.
use Rattle.std.specs.Prelude.{◌≡◌, ℕ, ◌<◌, Bool, false, List, map, length, slice_index}
use Rattle.rule.specs.Engine.{find}
use Rattle.model.specs.Types.{Model, Packet, device_of, with_lists}
use Rattle.model.specs.Frames.{packet_of}
use Rattle.model.specs.Watch.{holds, packet_move, packet_pairs}
use Rattle.model.specs.Block.{padded}
use Rattle.blocks.specs.Facts.{SoundModel}
use Rattle.blocks.specs.Block.{Measured}
use Rattle.marks.specs.Marks.{flag, mark}
use Rattle.marks.specs.Asked.{spared, marks_for}
use Rattle.packets.specs.Device.{Sender}
use Rattle.packets.specs.Held.{Roomy}
use Rattle.packets.specs.Shut.{Shut}
use Rattle.model.specs.Layout.{most_monitors}

-- the octets of the monitors that were asked, and whether a pair may start: where not, only the monitors of held
-- pairs were
pub record Acts (s l held : List ℕ) (n : ℕ) (acts : List ℕ) : Type 0 where
  pub may : Bool
  pub shut : may ≡ false → Shut s n (packet_of l).rssi
  pub octets : acts ≡ marks_for may held s (packet_of l)

-- what a sound state's block and a packet frame give the loops: held says of which handles pairs of the packet's
-- device are held, acts what the monitors say that were asked
pub record Begun (m : Model) (s l acts held : List ℕ) (dev n : ℕ) : Type 0 where
  pub facts : SoundModel m
  pub measured : Measured m
  pub block : s ≡ padded m
  pub below : m.position < 4294967295
  pub roomy : Roomy m.pairs
  pub sender : Sender (packet_of l) dev
  pub may : Bool
  pub shut : may ≡ false → Shut s n (packet_of l).rssi
  pub octets : (h : ℕ) → h < most_monitors
      → slice_index acts h ≡ spared may (slice_index held h) (mark (find m.mons h) (packet_of l))
  pub flags : (h : ℕ) → h < most_monitors → slice_index held h ≡ flag (holds m.pairs h (device_of (packet_of l)))
  pub count : n ≡ length m.pairs

-- the state after the pairs are moved, and after the starts
unfoldable pub after_moves : Model → Packet → Model
after_moves m p = with_lists m m.mons (map (packet_move m.mons p) m.pairs)

unfoldable pub after_starts : Model → Packet → Model
after_starts m p = with_lists m m.mons (packet_pairs m p)
