-- The index by device. Document 02, T-02: "Keep beside the pairs an index by device: address type, address and a
-- 16-bit mask of the handles that have it under watch"; "the index is the one worked out afresh from the pairs,
-- devices in the order of their first held pair". And what asking reads of it. Definitions alone.
use Rattle.std.specs.Prelude.{ℕ, zero, suc, ◌+◌, ◌-◌, ◌*◌, ◌/◌, ◌%◌, ◌^◌, Bool, true, false, List, [], ◌∷◌, ◌++◌, map, ltb, eqb, length, take, drop, get_or, replicate}
use Rattle.std.specs.Int.Bits.{bit_or}
use Rattle.laws.specs.Tests.{pick, sames}
use Rattle.laws.specs.Rows.{rows, flat}
use Rattle.octets.specs.Little.{little, octets_of}
use Rattle.model.specs.Types.{Pair, watched}
use Rattle.model.specs.Layout.{most_monitors, most_pairs}
use Rattle.wholes.specs.Layout.{device_size, mask_at, entry_size, entries_size, index_at, entry_count_at}

-- an entry: a device (address type and address) and the mask of its handles
pub record IndexEntry : Type 0 where
  pub device : List ℕ
  pub mask : ℕ

-- the bit of a handle in a mask; a handle above 15, which no sound state has, has none
unfoldable pub bit_of : ℕ → ℕ
bit_of h = pick (ltb h most_monitors) (2 ^ h) 0

unfoldable pub with_handle : ℕ → IndexEntry → IndexEntry
with_handle h e = record { device = e.device; mask = bit_or e.mask (bit_of h) }

-- a pair noted: its handle in its device's entry, or in a new entry behind the others
unfoldable pub noted : List ℕ → ℕ → List IndexEntry → List IndexEntry
noted d h [] = record { device = d; mask = bit_of h } ∷ []
noted d h (e ∷ es) = pick (sames e.device d) (with_handle h e ∷ es) (e ∷ noted d h es)

unfoldable pub noted_all : List IndexEntry → List Pair → List IndexEntry
noted_all es [] = es
noted_all es (q ∷ qs) = noted_all (noted (watched q) q.handle es) qs

-- the index, worked out afresh from the pairs
unfoldable pub index_of : List Pair → List IndexEntry
index_of qs = noted_all [] qs

-- its octets: a row for each entry, zeros for those that are free; the number of entries
unfoldable pub entry_row : IndexEntry → List ℕ
entry_row e = e.device ++ octets_of 2 e.mask

unfoldable pub entry_table : List IndexEntry → List ℕ
entry_table es = flat (map entry_row es) ++ replicate (entry_size * (most_pairs - length es)) 0

unfoldable pub index_block : List Pair → List ℕ
index_block qs = entry_table (index_of qs) ++ (length (index_of qs) ∷ [])

-- "the first of at most 64 entries for that device answers": its mask, or 0 where there is none
unfoldable pub mask_in : List ℕ → List (List ℕ) → ℕ
mask_in d [] = 0
mask_in d (r ∷ rs) = pick (sames (take device_size r) d) (little 2 r mask_at) (mask_in d rs)

-- what a block says of a device, from its index alone, whatever its octets
unfoldable pub mask_for : List ℕ → List ℕ → ℕ
mask_for d s = mask_in d (take (get_or s entry_count_at 0) (rows entry_size most_pairs (drop index_at s)))

-- the handles of a mask, lowest first: of its k lowest bits, the lowest being handle h
unfoldable pub handles_from : ℕ → ℕ → ℕ → List ℕ
handles_from zero h m = []
handles_from (suc k) h m = pick (eqb (m % 2) 1) (h ∷ handles_from k (h + 1) (m / 2)) (handles_from k (h + 1) (m / 2))

unfoldable pub handles_of : ℕ → List ℕ
handles_of m = handles_from most_monitors 0 m
