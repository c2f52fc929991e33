-- The rows of monitors, from the parameters of the commands that added them. Document 01, The image (A1); document
-- 02, T-13. Assumes nothing.
use Rattle.std.specs.Prelude.{ℕ, List, slice_index}
use Rattle.laws.specs.Loops.{up_to}
use Rattle.model.specs.Block.{monitor_place}
use Rattle.blocks.specs.Monitors.{Sized}
use Rattle.twin.specs.Numbered.{Added, mon_at}
use Rattle.twin.specs.Seen.{named_by}

-- the rows of the first n handles, each of the monitor that an octet names
unfoldable pub places_of : List ℕ → List ℕ → ℕ → List ℕ
places_of t live n = up_to (λ h. monitor_place h (named_by t (slice_index live h))) n

-- frame number a added a monitor that has room in a row
pub record Names (t : List ℕ) (a : ℕ) : Type 0 where
  pub added : Added t a
  pub sized : Sized (mon_at t a)
