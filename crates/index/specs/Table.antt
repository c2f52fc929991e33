-- The table of entries in octets, and the search in it. Document 02, T-02. Assumes nothing.
use Rattle.std.specs.Prelude.{ℕ, zero, suc, ◌≤◌, ◌≡◌, List, [], ◌∷◌, ◌++◌, eqb, length}
use Rattle.std.specs.Int.Bits.{bit_or}
use Rattle.laws.specs.Tests.{pick}
use Rattle.octets.specs.Little.{little}
use Rattle.rule.specs.Base.{All}
use Rattle.model.specs.Layout.{most_pairs}
use Rattle.wholes.specs.Index.{IndexEntry, entry_table}
use Rattle.wholes.specs.Sizes.{Fitting}

-- the place of a device's number among rows, as many as there are where none has it
unfoldable pub place_in : ℕ → List (List ℕ) → ℕ
place_in dev [] = 0
place_in dev (r ∷ rs) = pick (eqb (little 7 r 0) dev) 0 (suc (place_in dev rs))

-- a table of octets that has k entries
pub record Tabled (es : List IndexEntry) (k : ℕ) (t : List ℕ) : Type 0 where
  pub count : k ≡ length es
  pub most : length es ≤ most_pairs
  pub fits : All Fitting es
  pub table : t ≡ entry_table es

-- an entry more; a bit more in the mask of entry j
unfoldable pub with_entry : List IndexEntry → List ℕ → ℕ → List IndexEntry
with_entry es d bit = es ++ (record { device = d; mask = bit } ∷ [])

unfoldable pub with_bit : List IndexEntry → ℕ → ℕ → List IndexEntry
with_bit [] j bit = []
with_bit (e ∷ es) zero bit = record { device = e.device; mask = bit_or e.mask bit } ∷ es
with_bit (e ∷ es) (suc j) bit = e ∷ with_bit es j bit
