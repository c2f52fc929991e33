-- A tick on the rows of pairs is the model's tick on the pairs. Document 01, Watching, by history (Tick). Assumes
-- nothing.
use Rattle.std.specs.Prelude.{ℕ}
use Rattle.std.proofs.Math.Option.{Option, none, some}
use Rattle.model.specs.Types.{Monitor}
use Rattle.model.specs.Monitors.{filtering, parameters}

-- the report filtering of a monitor, where the filter is on; else 0. A row without a monitor reads as one of version 1
unfoldable pub filtering_in : Option Monitor → ℕ
filtering_in none = 6
filtering_in (some m) = filtering (parameters m)
