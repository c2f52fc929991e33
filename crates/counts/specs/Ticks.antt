-- What a tick counts for a handle, read from the block. Document 01, Watching, by history (Tick); document 02, T-09.
-- Assumes nothing.
use Rattle.std.specs.Prelude.{ℕ, ◌≡◌, Bool, false, ◌&&◌, List, eqb}
use Rattle.std.proofs.Math.Option.{Option, none, some}
use Rattle.rule.specs.Engine.{find}
use Rattle.model.specs.Types.{Model, Monitor, Pair}
use Rattle.model.specs.Monitors.{lets_through}
use Rattle.model.specs.Block.{padded}
use Rattle.model.specs.Watch.{goes_on, window_says}
use Rattle.blocks.specs.Facts.{SoundModel}
use Rattle.blocks.specs.Block.{Measured}
use Rattle.ticks.specs.Pairs.{filtering_in}
use Rattle.months.specs.Counts.{of_handle, closed_by}

-- the watch of a pair goes on, by its monitor
unfoldable pub goes_by : Option Monitor → Pair → Bool
goes_by none q = false
goes_by (some m) q = goes_on m q

-- its report filtering lets an event type through, where the filter is on
unfoldable pub through_by : ℕ → Option Monitor → ℕ → Bool
through_by filter o event = eqb filter 1 && lets_through (filtering_in o) event

-- its window closes with a report
unfoldable pub says_by : ℕ → Option Monitor → Pair → Bool
says_by filter none q = false
says_by filter (some m) q = window_says filter m q

-- of a handle
unfoldable pub watched_for : Model → ℕ → Pair → Bool
watched_for m h q = of_handle h q && goes_by (find m.mons q.handle) q

unfoldable pub closed_for : Model → ℕ → Pair → Bool
closed_for m h q = of_handle h q && closed_by m.filter (find m.mons q.handle) q

-- the block of a sound state
pub record Known (m : Model) (s : List ℕ) : Type 0 where
  pub facts : SoundModel m
  pub measured : Measured m
  pub block : s ≡ padded m
