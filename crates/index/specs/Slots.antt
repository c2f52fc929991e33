-- Slots for the search in a table: for each mark the place of the first entry whose device has it, plus 1, or 0. A
-- device is then found by a look at one entry, and by a search only where another device has its mark. Document 02,
-- T-02. Assumes nothing.
use Rattle.std.specs.Prelude.{ℕ, ◌+◌, ◌*◌, ◌≤◌, ◌<◌, ◌≡◌, List, get_or}
use Rattle.octets.specs.Little.{little}
use Rattle.wholes.specs.Layout.{entry_size}
use Rattle.index.specs.Seen.{mark_of}

-- the mark of entry j's device
unfoldable pub mark_at : List ℕ → ℕ → ℕ
mark_at t j = mark_of (little 7 t (entry_size * j))

-- the slots of the first k entries
pub record Slotted (t : List ℕ) (k : ℕ) (slots : List ℕ) : Type 0 where
  pub some : (j : ℕ) → j < k → get_or slots (mark_at t j) 0 ≡ 0 → ⊥
  pub first : (j : ℕ) → j < k → get_or slots (mark_at t j) 0 ≤ j + 1
  pub most : (m : ℕ) → get_or slots m 0 ≤ k
