-- Laws of the definitions in Sizes.
use Rattle.std.specs.Prelude.{ℕ, ◌+◌, ◌-◌, ◌*◌, ◌≤◌, ◌<◌, ◌≡◌, refl, Bool, length, replicate}
use Rattle.std.proofs.Math.Bool.{true, false}
use mathlib.Core.List.{List, [], ◌∷◌, map}
use Rattle.std.proofs.Common.{arith, lt-ltb, le-ltb, length-append}
use Rattle.std.specs.Int.Bits.{or_lt}
use Rattle.std.proofs.lemmas.List.{length-replicate}
use Rattle.std.proofs.Math.Pow.{pow-lt}
use Rattle.laws.specs.Tests.{pick, sames}
use Rattle.laws.specs.TestsLaws.{cases-le}
use Rattle.laws.specs.Loops.{every}
use Rattle.laws.specs.Rows.{flat}
use Rattle.octets.specs.Little.{is_octet, octets_of}
use Rattle.octets.specs.LittleLaws.{length-octets, octets-octets}
use Rattle.rule.specs.Base.{All}
use Rattle.model.specs.Types.{Pair, watched, device}
use Rattle.model.specs.Layout.{most_monitors, most_pairs}
use Rattle.blocks.specs.RowsLaws.{octets-append, octets-cons, octets-zeros}
use Rattle.blocks.specs.Bounds.{Fits}
use Rattle.wholes.specs.Layout.{entry_size, entries_size, index_size}
use Rattle.wholes.specs.Index.{IndexEntry, bit_of, with_handle, noted, noted_all, index_of, entry_row, entry_table, index_block}
use Rattle.wholes.specs.Sizes.{Seven, Fitting}

-- a pair whose device has seven octets
abbrev pub Known : Pair → Type 0
Known q = Seven (watched q)

pub fits-known : (q : Pair) → Fits q → Known q
unfolding watched device
fits-known q f =
    record {
      long = omega (arith, f.address-length);
      octets = octets-cons q.address_type q.address (omega (arith, f.kind-most)) f.address-octets;
    }

pub all_known : (qs : List Pair) → All Fits qs → All Known qs
all_known [] a = tt
all_known (q ∷ qs) a = (fits-known q a.0, all_known qs a.1)

pub bit-small : (h : ℕ) → bit_of h < 65536
unfolding bit_of pick
bit-small h =
    cases-le most_monitors h (λ b. rw (le-ltb h most_monitors b) (omega arith))
    (λ b. rw (lt-ltb h most_monitors b) (pow-lt {i = h} {j = 16} b))

module _ (d : List ℕ) (h : ℕ) (s : Seven d) where
  pub noted-fits : (es : List IndexEntry) → All Fitting es → All Fitting (noted d h es)
  unfolding noted with_handle pick
  noted-fits [] a = (record { device = s; mask = bit-small h }, tt)
  noted-fits (e ∷ es) a = go (sames e.device d) (noted-fits es a.1)
    where
      go : (b : Bool) → All Fitting (noted d h es) → All Fitting (pick b (with_handle h e ∷ es) (e ∷ noted d h es))
      go true i = (
        record { device = a.0.device; mask = or_lt 16 e.mask (bit_of h) a.0.mask (bit-small h) },
        a.1,
      )
      go false i = (a.0, i)

pub noted-length : (d : List ℕ) (h : ℕ) (es : List IndexEntry) → length (noted d h es) ≤ length es + 1
unfolding noted pick
noted-length d h [] = omega arith
noted-length d h (e ∷ es) = go (sames e.device d) (noted-length d h es)
  where
    go : (b : Bool) → length (noted d h es) ≤ length es + 1
        → length (pick b (with_handle h e ∷ es) (e ∷ noted d h es)) ≤ length (e ∷ es) + 1
    go true i = omega arith
    go false i = omega arith

pub all_fit : (es : List IndexEntry) (qs : List Pair) → All Fitting es → All Known qs → All Fitting (noted_all es qs)
unfolding noted_all
all_fit es [] a k = a
all_fit es (q ∷ qs) a k =
    all_fit (noted (watched q) q.handle es) qs (noted-fits (watched q) q.handle k.0 es a) k.1

pub all-length : (es : List IndexEntry) (qs : List Pair) → length (noted_all es qs) ≤ length es + length qs
unfolding noted_all
all-length es [] = omega arith
all-length es (q ∷ qs) =
    omega (arith, all-length (noted (watched q) q.handle es) qs, noted-length (watched q) q.handle es)

-- the index of pairs whose devices have seven octets
pub index-fits : (qs : List Pair) → All Known qs → All Fitting (index_of qs)
unfolding index_of
index-fits qs k = all_fit [] qs tt k

pub index-length : (qs : List Pair) → length (index_of qs) ≤ length qs
unfolding index_of
index-length qs = let h = all-length [] qs in omega arith

-- its rows and the table of them
pub length-entry_row : (e : IndexEntry) → Fitting e → length (entry_row e) ≡ entry_size
unfolding entry_row
length-entry_row e f = simp (length-append, length-octets) (omega (arith, f.device.long))

pub length-entry_rows : (es : List IndexEntry) → All Fitting es
    → length (flat (map entry_row es)) ≡ entry_size * length es
unfolding flat
length-entry_rows [] a = refl
length-entry_rows (e ∷ es) a = simp length-append (omega (arith, length-entry_row e a.0, length-entry_rows es a.1))

pub length-entry_table : (es : List IndexEntry) → All Fitting es → length es ≤ most_pairs
    → length (entry_table es) ≡ entries_size
unfolding entry_table
length-entry_table es a h =
    let n = length-entry_rows es a in simp (length-append, length-replicate) (omega arith)

pub length-index_block : (qs : List Pair) → All Known qs → length qs ≤ most_pairs → length (index_block qs) ≡ index_size
unfolding index_block
length-index_block qs k h =
    let l = index-length qs in
    let n = length-entry_table (index_of qs) (index-fits qs k) (omega arith) in
    simp length-append (omega arith)

-- the octets of the index are octets
pub entry_row-octets : (e : IndexEntry) → Fitting e → every is_octet (entry_row e) ≡ true
unfolding entry_row
entry_row-octets e f = octets-append e.device (octets_of 2 e.mask) f.device.octets (octets-octets 2 e.mask)

rows-octets : (es : List IndexEntry) → All Fitting es → every is_octet (flat (map entry_row es)) ≡ true
unfolding flat every
rows-octets [] a = refl
rows-octets (e ∷ es) a =
    octets-append (entry_row e) (flat (map entry_row es)) (entry_row-octets e a.0) (rows-octets es a.1)

pub entry_table-octets : (es : List IndexEntry) → All Fitting es → every is_octet (entry_table es) ≡ true
unfolding entry_table
entry_table-octets es a =
    octets-append (flat (map entry_row es)) (replicate (entry_size * (most_pairs - length es)) 0) (rows-octets es a)
    (octets-zeros (entry_size * (most_pairs - length es)))
