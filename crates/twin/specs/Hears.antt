-- Which kept packets a pair hears: the start is packet number k, its monitor was added by frame number a. Document
-- 01, Watching, by history. Assumes nothing.
use Rattle.std.specs.Prelude.{◌≡◌, ℕ, ◌-◌, ◌≤◌, Bool, true, ◌&&◌, ◌||◌, ◌⊎◌, List, drop, ◌==◌}
use Rattle.laws.specs.Tests.{sames}
use Rattle.model.specs.Types.{device_of}
use Rattle.model.specs.Frames.{command, packet, tick, is_command, is_packet, is_scanned, is_tick, packet_of}
use Rattle.model.specs.Monitors.{matches, monitor_of}
use Rattle.pasts.specs.Pair
use Rattle.marks.specs.Fields.{Framed}
use Rattle.twin.specs.Table.{Commands, Sends, Stands, kind_at, payload_at}
use Rattle.twin.specs.Heard.{Adds}

-- frame i has the form of its kind
pub record Formed (t : List ℕ) (i : ℕ) : Type 0 where
  pub stands : Stands t i
  pub command : kind_at t i ≡ 1 → is_command (payload_at t i) ≡ true
  pub packet : kind_at t i ≡ 2 → is_packet (payload_at t i) ≡ true
  pub tick : kind_at t i ≡ 3 → is_tick (payload_at t i) ≡ true
  pub scanned : kind_at t i ≡ 4 → is_scanned (payload_at t i) ≡ true
  pub frames : (kind_at t i ≡ 2) ⊎ (kind_at t i ≡ 4) → Framed (payload_at t i)

-- frame number a added a monitor, frame number k is a packet
pub record Start (t : List ℕ) (a k : ℕ) : Type 0 where
  pub monitor : 1 ≤ a
  pub commands : Commands t (a - 1)
  pub adds : Adds (drop 3 (payload_at t (a - 1)))
  pub packet : 1 ≤ k
  pub sends : Sends t (k - 1)
  pub framed : Framed (payload_at t (k - 1))

-- the start that they tell, of a handle
unfoldable pub start_of : List ℕ → ℕ → ℕ → ℕ → Pair.Start
start_of t h a k =
    record {
      number = k;
      handle = h;
      mon = monitor_of (drop 3 (payload_at t (a - 1)));
      packet = packet_of (payload_at t (k - 1));
    }

-- whether frame i is heard
unfoldable pub hears : List ℕ → ℕ → ℕ → ℕ → Bool
hears t a k i =
    (kind_at t i == 2 || kind_at t i == 4)
    && (sames (device_of (packet_of (payload_at t i))) (device_of (packet_of (payload_at t (k - 1))))
    && matches (monitor_of (drop 3 (payload_at t (a - 1)))) (packet_of (payload_at t i)))
