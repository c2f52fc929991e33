-- When a frame leaves the index as it is: no pair ended, and nothing that it wrote opens with an event of a pair
-- (0xFF). So the index is worked out again only after a frame that started or ended a pair. Document 02, T-02.
-- Assumes nothing.
use Rattle.std.specs.Prelude.{ℕ}

-- the octet that opens an event of a pair (crate model, Events), and nothing else that a frame writes first
abbrev pub pair_event : ℕ
pair_event = 0xFF
