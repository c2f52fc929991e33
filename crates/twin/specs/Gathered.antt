-- The packets of a window, frame by frame: their number, the sum of their RSSI, the latest. Document 01, Watching, by
-- history. Assumes nothing.
use Rattle.std.specs.Prelude.{◌≡◌, ℕ, ◌+◌, List, Option, Some}
use Rattle.laws.specs.Tests.{pick}
use Rattle.model.specs.Frames.{packet_of}
use Rattle.model.specs.Level.{add_rssi}
use Rattle.twin.specs.Table.{payload_at}
use Rattle.twin.specs.Hears.{hears}

-- a window's packets, frame by frame
pub record Gathers (t : List ℕ) (a k i packets sum : ℕ) (last : Option ℕ) (packets' sum' : ℕ) (last' : Option ℕ) : Type 0
  where
    pub packets-is : packets' ≡ pick (hears t a k i) (packets + 1) packets
    pub sum_is : sum' ≡ pick (hears t a k i) (add_rssi sum (packet_of (payload_at t i)).rssi) sum
    pub last-is : last' ≡ pick (hears t a k i) (Some (i + 1)) last
