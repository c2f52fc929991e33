-- The model shows the core engine of the history rule: what it holds of monitors and pairs, less windows, filter and
-- position, moves as the core does at every frame that it executes. Document 01, Watching, by history. Assumes
-- nothing.
use Rattle.std.specs.Prelude.{map}
use Rattle.rule.specs.Engine.{State, Pair as CorePair}
use Rattle.model.specs.Types.{Model, Pair, watched}
use Rattle.model.specs.Level.{level}
use Rattle.model.proofs.Radio.{radio}

-- a pair as the core holds it
unfoldable pub view_pair : Pair → CorePair radio
view_pair q = (q.handle, watched q, q.since_good, level q.kept)

-- the state as the core holds it
unfoldable pub view : Model → State radio
view m = record { mons = m.mons; pairs = map view_pair m.pairs }
