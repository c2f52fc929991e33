-- The law of the cut over the calls' contracts (document 02, T-10): over the engine with rows on whole blocks, which
-- the contracts of `month::count_line` and `bournejade_count_line` cite (`month/Outcomes.outcome`). Assumes nothing.
use Rattle.sessions.specs.Machine.{Machine}
use Rattle.model.specs.Block.{model_of}
use Rattle.wholes.specs.Engine.{engine}
use Rattle.months.specs.Counting.{counting}

-- the engine with rows that the calls' contracts cite: document 01's state stands in the block, and a frame is one of
-- document 01's
abbrev pub counting_blocks : Machine
counting_blocks = counting engine model_of (λ b. b)
