-- The walk over the pairs with the entries of a table that stands there already: nothing is copied. Each pair finds
-- its entry or is the first of the next one, and its handle goes into a mask beside that entry; in the end the masks
-- are compared. Document 02, T-02. Assumes nothing.
use Rattle.std.specs.Prelude.{ℕ, ◌+◌, ◌*◌, ◌≤◌, ◌<◌, ◌≡◌, ◌⊎◌, true, false, List, map, length, take, Option, Some, None}
use Rattle.laws.specs.Rows.{rows}
use Rattle.octets.specs.Little.{little, value}
use Rattle.rule.specs.Base.{All}
use Rattle.model.specs.Layout.{most_monitors, most_pairs}
use Rattle.wholes.specs.Layout.{entry_size, mask_at}
use Rattle.wholes.specs.Index.{IndexEntry, bit_of, noted}
use Rattle.wholes.specs.Sizes.{Fitting}
use Rattle.wholes.specs.Watched.{has_bit, mask_of}
use Rattle.index.specs.Table.{with_entry}
use Rattle.index.specs.Slots.{Slotted}

-- what a row and an entry say: the device's number and the mask
abbrev pub row_number : List ℕ → ℕ
row_number r = little 7 r 0

abbrev pub row_mask : List ℕ → ℕ
row_mask r = little 2 r mask_at

abbrev pub device_number : IndexEntry → ℕ
device_number e = value e.device

abbrev pub mask_number : IndexEntry → ℕ
mask_number e = e.mask

-- k entries whose devices stand in a table, and whose masks were gathered
pub record Tallied (es : List IndexEntry) (k : ℕ) (t masks : List ℕ) : Type 0 where
  pub count : k ≡ length es
  pub most : length es ≤ most_pairs
  pub fits : All Fitting es
  pub devices : map row_number (take k (rows entry_size most_pairs t)) ≡ map device_number es
  pub gathered : take k masks ≡ map mask_number es

-- .. with the slots of the search
pub record Walked (es : List IndexEntry) (k : ℕ) (t masks slots : List ℕ) : Type 0 where
  pub tally : Tallied es k t masks
  pub slotted : Slotted t k slots

-- a pair that no table has in that place: its handle is none, it was met before, or another device stands where its
-- own is to follow
abbrev pub Strange : List IndexEntry → List ℕ → ℕ → List ℕ → Type 0
Strange es d h t = (noted d h es ≡ with_entry es d (bit_of h)) × (little 7 t (entry_size * length es) ≡ value d → ⊥)

abbrev pub Bad : List IndexEntry → List ℕ → ℕ → List ℕ → Type 0
Bad es d h t = (most_monitors ≤ h) ⊎ (((h < most_monitors) × (has_bit h (mask_of d es) ≡ true)) ⊎ Strange es d h t)

-- one pair more, or one that is such, for which nothing is answered
abbrev pub Stepped : Option ℕ → List IndexEntry → List ℕ → ℕ → List ℕ → List ℕ → List ℕ → Type 0
Stepped None es d h t masks slots = Bad es d h t
Stepped (Some k) es d h t masks slots =
    Walked (noted d h es) k t masks slots × (h < most_monitors) × (has_bit h (mask_of d es) ≡ false)
