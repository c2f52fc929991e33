-- Frames told by their numbers: the monitor that frame number a added, packet number r or none, the frames behind
-- number k. Document 02, T-07. Assumes nothing.
use Rattle.std.specs.Prelude.{◌≡◌, ℕ, ◌-◌, ◌<◌, ◌≤◌, List, length, drop, Option as Perhaps, Some, None}
use Rattle.std.proofs.Math.Option.{Option, none, some}
use Rattle.model.specs.Types.{Monitor, Packet}
use Rattle.model.specs.Frames.{packet_of}
use Rattle.model.specs.Monitors.{monitor_of}
use Rattle.pasts.specs.Pair.{newest, sum_of, window}
use Rattle.twins.specs.Twin.{most_kept}
use Rattle.twin.specs.Table.{Commands, Sends, after, payload_at}
use Rattle.twin.specs.Heard.{Adds}
use Rattle.twin.specs.Hears.{Formed, start_of}

-- frame number a added a monitor
pub record Added (t : List ℕ) (a : ℕ) : Type 0 where
  pub monitor : 1 ≤ a
  pub commands : Commands t (a - 1)
  pub adds : Adds (drop 3 (payload_at t (a - 1)))

abbrev pub mon_at : List ℕ → ℕ → Monitor
mon_at t a = monitor_of (drop 3 (payload_at t (a - 1)))

-- frame number r is a packet
pub record Sent (t : List ℕ) (r : ℕ) : Type 0 where
  pub number : 1 ≤ r
  pub sends : Sends t (r - 1)

abbrev pub packet_at : List ℕ → ℕ → Packet
packet_at t r = packet_of (payload_at t (r - 1))

-- a packet's number, if there is one; and it is of the first n frames
abbrev pub May : List ℕ → Perhaps ℕ → Type 0
May t None = Unit
May t (Some r) = Sent t r

pub record Maybe (t : List ℕ) (n : ℕ) (o : Perhaps ℕ) : Type 0 where
  pub most : (r : ℕ) → o ≡ Some r → r ≤ n
  pub sent : May t o

unfoldable pub numbered : List ℕ → Perhaps ℕ → Option Packet
numbered t None = none
numbered t (Some r) = some (packet_at t r)

-- the frames behind number k, up to n
pub record Follows (t : List ℕ) (k n : ℕ) : Type 0 where
  pub order : k ≤ n
  pub few : n ≤ most_kept
  pub formed : (i : ℕ) → i < n → Formed t i

-- what a start's last window tells, by packets, sum and the number of the latest
pub record Tells (t : List ℕ) (a k n packets sum : ℕ) (last : Perhaps ℕ) : Type 0 where
  pub packets-is : (h : ℕ) → packets ≡ length (window (start_of t h a k) (after t k (n - k)))
  pub sum_is : (h : ℕ) → sum ≡ sum_of (window (start_of t h a k) (after t k (n - k)))
  pub last-is : (h : ℕ) → numbered t last ≡ newest (window (start_of t h a k) (after t k (n - k)))
  pub number : Maybe t n last
