-- The last packet that was a reason for a report, looked for from the start on. Document 02, T-13. Assumes nothing.
use Rattle.std.specs.Prelude.{ℕ, ◌+◌, Bool, not, ◌&&◌, List, Option}
use Rattle.model.specs.Monitors.{allows}
use Rattle.pasts.specs.Pair.{alike}
use Rattle.twin.specs.Hears.{hears}
use Rattle.twin.specs.Numbered.{mon_at, numbered, packet_at}

-- frame i is a reason for a report, packet number r being the last that was
unfoldable pub reasons : List ℕ → ℕ → ℕ → Option ℕ → ℕ → Bool
reasons t a k r i =
    hears t a k i && (allows (mon_at t a) (packet_at t (i + 1)).event
    && not (alike (packet_at t (i + 1)) (numbered t r)))
