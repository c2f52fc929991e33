-- A pair that its monitor's turn would look for is firm: where the monitor matches, the pair keeps the packet's RSSI,
-- so that it goes for no start of that packet. So what was held before the turns is held at its own. Document 01,
-- Watching, by history; document 02, T-05. Assumes nothing.
use Rattle.std.specs.Prelude.{◌≡◌, ℕ, ◌<◌, ◌≤◌, Bool, true, false, List, slice_index}
use Rattle.rule.specs.Base.{All}
use Rattle.rule.specs.Engine.{find}
use Rattle.model.specs.Types.{Model, Packet, Pair, device_of}
use Rattle.model.specs.Level.{level}
use Rattle.model.specs.Watch.{is_pair, holds, fits}
use Rattle.marks.specs.Marks.{flag, opens, mark}
use Rattle.marks.specs.Asked.{spared}
use Rattle.packets.specs.Device.{Sender}
use Rattle.model.specs.Layout.{most_monitors}

-- a pair of the handle and the packet's device keeps no less than the packet's RSSI
abbrev pub Firm : Packet → ℕ → Pair → Type 0
Firm p h q = is_pair h (device_of p) q ≡ true → level p.rssi ≤ level q.kept

-- what the turns are given: whether a pair may start, the octets of the handles, and of which of them pairs of the
-- packet's device are held, those of handles that may start one firm
pub record Settled (m : Model) (p : Packet) (acts under : List ℕ) (dev : ℕ) : Type 0 where
  pub sender : Sender p dev
  pub may : Bool
  pub shut : may ≡ false → fits p.rssi m.pairs ≡ false
  pub octets : (h : ℕ) → h < most_monitors → slice_index acts h ≡ spared may (slice_index under h) (mark (find m.mons h) p)
  pub flags : (h : ℕ) → h < most_monitors → slice_index under h ≡ flag (holds m.pairs h (device_of p))
  pub firm : (h : ℕ) → opens (mark (find m.mons h) p) ≡ true → All (Firm p h) m.pairs
