-- The ticks since a good packet, looked for from the newest frame back. Document 01, Watching, by history. Assumes
-- nothing.
use Rattle.std.specs.Prelude.{ℕ, ◌-◌, ◌<◌, ◌≤◌, Bool, ◌&&◌, List, drop}
use Rattle.model.specs.Frames.{packet_of}
use Rattle.model.specs.Monitors.{good, monitor_of}
use Rattle.twins.specs.Twin.{most_kept}
use Rattle.twin.specs.Table.{payload_at}
use Rattle.twin.specs.Hears.{Formed, Start, hears}

-- the frames behind a start that are looked at
pub record Looks (t : List ℕ) (a k n : ℕ) : Type 0 where
  pub start : Start t a k
  pub order : k ≤ n
  pub few : n ≤ most_kept
  pub formed : (i : ℕ) → i < n → Formed t i

-- whether frame i is a good packet of the pair
unfoldable pub refreshes : List ℕ → ℕ → ℕ → ℕ → Bool
refreshes t a k i = hears t a k i && good (monitor_of (drop 3 (payload_at t (a - 1)))) (packet_of (payload_at t i))
