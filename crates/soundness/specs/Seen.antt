-- The marks of keys: which were seen among the pairs before a place, so that a new key is told without looking at
-- them. Document 01, The image ("pairs distinct"). Assumes nothing.
use Rattle.std.specs.Prelude.{ℕ, ◌+◌, ◌*◌, ◌/◌, ◌%◌, ◌<◌, ◌≡◌, Bool, true, false, List, get_or}
use Rattle.soundness.specs.Clauses.{key_at}

abbrev pub marks : ℕ
marks = 256

-- the mark of a key: its device's lowest octet and, above it, its handle
unfoldable pub mark_of : ℕ → ℕ
mark_of key = (key / 65536 % 256 + key % 16 * 16) % marks

-- every pair before a place has its mark seen
unfoldable pub Marked : List ℕ → ℕ → List Bool → Type 0
Marked s i seen = (j : ℕ) → j < i → get_or seen (mark_of (key_at s j)) false ≡ true
