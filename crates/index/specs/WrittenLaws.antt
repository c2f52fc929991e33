-- What is written into the table: an entry behind the others, a bit into the mask of one. Document 02, T-02. Assumes
-- nothing.
use Prim.Native.Nat.{ℕ, zero, suc, ◌+◌, ◌-◌, ◌*◌, ◌/◌, ◌%◌, ◌^◌, ◌≤◌, ◌<◌}
use Rattle.std.specs.Prelude.{◌≡◌, refl, Bool, true, false, leb, ltb, take, drop, get_or}
use Rattle.std.proofs.Math.Path.{sym, ap, subst}
use Rattle.std.proofs.Common.{◌∙◌, add-zero, zero-add, mul-suc, one-mul, mod-eq_of_lt, lt-ltb, le-ltb, length-append, take_at, drop_at, drop-drop}
use mathlib.Core.List.{List, [], ◌∷◌, ◌++◌, map, append_assoc, append-nil}
use native.Mathlib.Omega.{arith}
use borrow.Rule.Slice.PartMut.{put_mid}
use Rattle.std.specs.Int.Bits.{bit_or}
use Rattle.std.proofs.lemmas.Nat.{or_lt}
use Rattle.std.proofs.Math.ListN.{length, replicate}
use Rattle.std.proofs.lemmas.List.{length-replicate, replicate-append-replicate}
use Rattle.std.proofs.Math.Pow.{pow-lt}
use Rattle.std.proofs.Math.Seq.{drop-append_seam}
use Rattle.laws.specs.Put.{put, put_if}
use Rattle.laws.specs.PutLaws.{put_of, put_then, put_right}
use Rattle.laws.specs.Tests.{pick}
use Rattle.laws.specs.TestsLaws.{pick_true, pick-false}
use Rattle.laws.specs.Rows.{flat}
use Rattle.laws.specs.RowsLaws.{flat_append, put_whole}
use Rattle.octets.specs.Little.{little, value, octets_of, is_octet}
use Rattle.octets.specs.LittleLaws.{little-drop, little-value, length-octets, octets-add, octets-mod, octets-value, value-octets}
use Rattle.octets.specs.Numbers.{number_at}
use Rattle.octets.specs.NumbersLaws.{number-of}
use Rattle.rule.specs.Base.{All}
use Rattle.model.specs.Layout.{most_monitors, most_pairs}
use Rattle.wholes.specs.Layout.{device_size, entry_size, entries_size, mask_at}
use Rattle.wholes.specs.Index.{IndexEntry, entry_row, entry_table, bit_of}
use Rattle.wholes.specs.Sizes.{Seven, Fitting}
use Rattle.wholes.proofs.SizesLaws.{length-entry_row, length-entry_rows}
use Rattle.index.specs.Table.{Tabled, with_entry, with_bit}

-- the bit of a handle, by a shift
pub bit-low : (h : ℕ) → h < most_monitors → (1 * 2 ^ h) % 65536 ≡ bit_of h
unfolding bit_of
bit-low h b =
    rw (one-mul (2 ^ h)) (mod-eq_of_lt (pow-lt {i = h} {j = 16} b))
    ∙ sym (pick_true (2 ^ h) 0 (lt-ltb h most_monitors b))

pub bit_high : (h : ℕ) → most_monitors ≤ h → 0 ≡ bit_of h
unfolding bit_of
bit_high h b = sym (pick-false (2 ^ h) 0 (le-ltb h most_monitors b))

-- the octets of an entry's row, as they are written: eight, then one
row-octets : (d : List ℕ) (dev bit : ℕ) → Seven d → dev ≡ value d → dev < 72057594037927936 → bit < 65536
    → octets_of 8 (dev + 72057594037927936 * (bit % 256)) ++ octets_of 1 (bit / 256 % 256) ≡ d ++ octets_of 2 bit
row-octets d dev bit s n b w =
    let v : ℕ = dev + 72057594037927936 * (bit % 256) in
    let e : octets_of 8 v ≡ octets_of 7 v ++ octets_of 1 (v / 72057594037927936) = octets-add 7 1 v in
    let q : v / 72057594037927936 ≡ bit % 256 = omega arith in
    let r : v % 72057594037927936 ≡ dev = omega arith in
    let f : octets_of 7 v ≡ d =
    sym (octets-mod 7 v) ∙ ap (octets_of 7) (r ∙ n) ∙ ap (λ (k : ℕ). octets_of k (value d)) (sym s.long)
    ∙ octets-value d s.octets in
    let g : octets_of 2 bit ≡ octets_of 1 bit ++ octets_of 1 (bit / 256) = octets-add 1 1 bit in
    ap (λ (l : List ℕ). l ++ octets_of 1 (bit / 256 % 256))
    (e ∙ ap (λ (l : List ℕ). l ++ octets_of 1 (v / 72057594037927936)) f
    ∙ ap (λ (k : ℕ). d ++ octets_of 1 k) q)
    ∙ append_assoc d (octets_of 1 (bit % 256)) (octets_of 1 (bit / 256 % 256))
    ∙ ap (λ (l : List ℕ). d ++ (l ++ octets_of 1 (bit / 256 % 256))) (octets-mod 1 bit)
    ∙ ap (λ (l : List ℕ). d ++ (octets_of 1 bit ++ l)) (octets-mod 1 (bit / 256)) ∙ ap (λ (l : List ℕ). d ++ l) (sym g)

-- a row written over the first free one
fill-free : (es : List IndexEntry) (e : IndexEntry) → All Fitting es → Fitting e → length es < most_pairs
    → put (entry_table es) (entry_size * length es) (entry_row e) ≡ entry_table (es ++ (e ∷ []))
unfolding entry_table put flat
fill-free es e a f h =
    let r : List ℕ = entry_row e in
    let n : ℕ = most_pairs - length es in
    let l : length r ≡ entry_size = length-entry_row e f in
    let k : length (flat (map entry_row es)) ≡ entry_size * length es = length-entry_rows es a in
    let z : replicate {A = ℕ} (entry_size * n) 0 ≡ replicate entry_size 0 ++ replicate (entry_size * (n - 1)) 0 =
    ap (λ (j : ℕ). replicate {A = ℕ} j 0) (let q : entry_size * n ≡ entry_size + entry_size * (n - 1) = omega arith in q)
    ∙ sym (replicate-append-replicate entry_size (entry_size * (n - 1)) 0) in
    let m : length (es ++ (e ∷ [])) ≡ length es + 1 = length-append es (e ∷ []) in
    let p : put (flat (map entry_row es) ++ replicate (entry_size * n) 0) (entry_size * length es) r
    ≡ flat (map entry_row es) ++ put (replicate (entry_size * n) 0) 0 r =
    ap (λ (j : ℕ). put (flat (map entry_row es) ++ replicate (entry_size * n) 0) j r)
    (sym k ∙ sym (add-zero (length (flat (map entry_row es)))))
    ∙ put_right (flat (map entry_row es)) (replicate (entry_size * n) 0) 0 r in
    let d : drop {A = ℕ} (0 + length r) (replicate (entry_size * n) 0) ≡ replicate (entry_size * (n - 1)) 0 =
    ap (λ (j : ℕ). drop {A = ℕ} j (replicate (entry_size * n) 0)) (zero-add (length r) ∙ l)
    ∙ ap (drop {A = ℕ} entry_size) z
    ∙ drop_at (replicate entry_size 0) (replicate (entry_size * (n - 1)) 0) entry_size
    (length-replicate {A = ℕ} entry_size 0) in
    let s : flat (map entry_row (es ++ (e ∷ []))) ≡ flat (map entry_row es) ++ r =
    ap flat (mathlib.Core.List.map-append entry_row es (e ∷ [])) ∙ flat_append (map entry_row es) (r ∷ [])
    ∙ ap (λ (x : List ℕ). flat (map entry_row es) ++ x) (append-nil r) in
    p ∙ ap (λ (x : List ℕ). flat (map entry_row es) ++ (r ++ x)) d
    ∙ sym (append_assoc (flat (map entry_row es)) r (replicate (entry_size * (n - 1)) 0))
    ∙ ap (λ (x : List ℕ). x ++ replicate (entry_size * (n - 1)) 0) (sym s)
    ∙ ap (λ (j : ℕ). flat (map entry_row (es ++ (e ∷ []))) ++ replicate {A = ℕ} (entry_size * j) 0)
    (let q : n - 1 ≡ most_pairs - length (es ++ (e ∷ [])) = omega arith in q)

all_snoc : (es : List IndexEntry) (e : IndexEntry) → All Fitting es → Fitting e → All Fitting (es ++ (e ∷ []))
all_snoc [] e a f = (f, tt)
all_snoc (x ∷ es) e a f = (a.0, all_snoc es e a.1 f)

-- a row that is written whole
module _ (r : List ℕ) (dev bit : ℕ) (l : length r ≡ entry_size) (small : dev < 72057594037927936) (w : bit < 65536)
    {u v : List ℕ} {x y : Bool}
    (lu : length u ≡ length r) (ex : x ≡ leb (0 + 8) (length r))
    (eu : u ≡ put_if x r 0 (octets_of 8 (dev + 72057594037927936 * (bit % 256))))
    (ey : y ≡ leb (8 + 1) (length u)) (ev : v ≡ put_if y u 8 (octets_of 1 (bit / 256 % 256))) where
  pub row_written : (d : List ℕ) → Seven d → dev ≡ value d → v ≡ d ++ octets_of 2 bit
  row_written d s n =
      let a : List ℕ = octets_of 8 (dev + 72057594037927936 * (bit % 256)) in
      let o : List ℕ = octets_of 1 (bit / 256 % 256) in
      let p : u ≡ put r 0 a = put_of r 0 a 8 (length r) ex (omega arith) eu in
      let q : v ≡ put u 8 o = put_of u 8 o 1 (length u) ey (omega arith) ev in
      put_then r 0 a 8 o (omega arith) p
      (let m : length a ≡ 8 = length-octets 8 (dev + 72057594037927936 * (bit % 256)) in omega arith) q
      (row-octets d dev bit s n small w)
      ∙ put_whole r (d ++ octets_of 2 bit)
      (let m : length (octets_of 2 bit) ≡ 2 = length-octets 2 bit in let k = s.long in l
      ∙ sym (length-append d (octets_of 2 bit) ∙ omega arith))

-- a lent part that comes back is a put
pub mid-put : (at k : ℕ) (xs ys : List ℕ) → length ys ≡ k → put_mid at k xs ys ≡ put xs at ys
unfolding put
mid-put at k xs ys l =
    rw (← l) (ap (λ (x : List ℕ). take at xs ++ (ys ++ x)) (drop-drop (length ys) at xs)
    ∙ sym (append_assoc (take at xs) ys (drop (at + length ys) xs)))

-- an entry more
pub entry-written : (t : List ℕ) (k dev bit n : ℕ) → k < most_pairs → bit < 65536 → n ≡ entry_size → (r v : List ℕ)
    → ((d : List ℕ) → Seven d → dev ≡ value d → r ≡ d ++ octets_of 2 bit) → v ≡ put_mid (entry_size * k) n t r
    → (es : List IndexEntry) (d : List ℕ) → Tabled es k t → Seven d → dev ≡ value d
    → Tabled (with_entry es d bit) (k + 1) v
unfolding with_entry entry_row
entry-written t k dev bit n b w j r v f q es d g s z =
    let e : IndexEntry = record { device = d; mask = bit } in
    let i : Fitting e = record { device = s; mask = w } in
    let c : k ≡ length es = g.count in
    let m : length (es ++ (e ∷ [])) ≡ length es + 1 = length-append es (e ∷ []) in
    let y : r ≡ d ++ octets_of 2 bit = f d s z in
    let h : length r ≡ n =
    let a : length (octets_of 2 bit) ≡ 2 = length-octets 2 bit in let k =
    s.long in ap length y ∙ length-append d (octets_of 2 bit) ∙ omega arith in
    record {
      count = omega arith;
      most = omega arith;
      fits = all_snoc es e g.fits i;
      table = q ∙ mid-put (entry_size * k) n t r h ∙ ap (put t (entry_size * k)) y
          ∙ ap (λ (i : ℕ). put t (entry_size * i) (d ++ octets_of 2 bit)) c
          ∙ ap (λ (x : List ℕ). put x (entry_size * length es) (d ++ octets_of 2 bit)) g.table
          ∙ fill-free es e g.fits i (omega arith);
    }

-- the mask of entry j
unfoldable mask_at_place : List IndexEntry → ℕ → ℕ
mask_at_place [] j = 0
mask_at_place (e ∷ es) zero = e.mask
mask_at_place (e ∷ es) (suc j) = mask_at_place es j

mask-read : (es : List IndexEntry) (j : ℕ) (z : List ℕ) → All Fitting es → j < length es
    → little 2 (flat (map entry_row es) ++ z) (entry_size * j + mask_at) ≡ mask_at_place es j
unfolding flat mask_at_place entry_row
mask-read [] j z a h = absurd (omega arith)
mask-read (e ∷ es) zero z a h =
    let x : List ℕ = octets_of 2 e.mask in
    let y : List ℕ = flat (map entry_row es) ++ z in
    let g : ((e.device ++ x) ++ flat (map entry_row es)) ++ z ≡ e.device ++ (x ++ y) =
    append_assoc (e.device ++ x) (flat (map entry_row es)) z ∙ append_assoc e.device x y in
    let n : length e.device ≡ 7 = a.0.device.long in
    let m : length x ≡ 2 = length-octets 2 e.mask in
    let o : length (x ++ y) ≡ length x + length y = length-append x y in
    ap (λ (l : List ℕ). little 2 l (entry_size * 0 + mask_at)) g
    ∙ ap (little 2 (e.device ++ (x ++ y))) (let i : entry_size * 0 + mask_at ≡ 7 + 0 = omega arith in i)
    ∙ sym (little-drop 2 7 (e.device ++ (x ++ y)) 0)
    ∙ ap (λ (l : List ℕ). little 2 l 0) (drop_at e.device (x ++ y) 7 n)
    ∙ little-value 2 (x ++ y) 0 (omega arith) ∙ ap value (take_at x y 2 m) ∙ value-octets 2 e.mask
    ∙ mod-eq_of_lt a.0.mask
mask-read (e ∷ es) (suc j) z a h =
    let y : List ℕ = flat (map entry_row es) ++ z in
    let r : List ℕ = entry_row e in
    let n : length r ≡ entry_size = length-entry_row e a.0 in
    ap (λ (l : List ℕ). little 2 l (entry_size * suc j + mask_at)) (append_assoc r (flat (map entry_row es)) z)
    ∙ ap (little 2 (r ++ y))
    (let i : entry_size * suc j + mask_at ≡ entry_size + (entry_size * j + mask_at) = omega arith in i)
    ∙ sym (little-drop 2 entry_size (r ++ y) (entry_size * j + mask_at))
    ∙ ap (λ (l : List ℕ). little 2 l (entry_size * j + mask_at)) (drop_at r y entry_size n)
    ∙ mask-read es j z a.1 (omega arith)

over : (x v y : List ℕ) → length x ≡ 2 → length v ≡ 2 → put (x ++ y) 0 v ≡ v ++ y
unfolding put
over x v y p q =
    ap (λ (l : List ℕ). v ++ l) (ap (λ (k : ℕ). drop k (x ++ y)) (zero-add (length v) ∙ q) ∙ drop_at x y 2 p)

mask-put : (es : List IndexEntry) (j bit : ℕ) (z : List ℕ) → All Fitting es → j < length es
    → put (flat (map entry_row es) ++ z) (entry_size * j + mask_at) (octets_of 2 (bit_or (mask_at_place es j) bit))
    ≡ flat (map entry_row (with_bit es j bit)) ++ z
unfolding flat mask_at_place with_bit entry_row
mask-put [] j bit z a h = absurd (omega arith)
mask-put (e ∷ es) zero bit z a h =
    let x : List ℕ = octets_of 2 e.mask in
    let v : List ℕ = octets_of 2 (bit_or e.mask bit) in
    let y : List ℕ = flat (map entry_row es) ++ z in
    let g : ((e.device ++ x) ++ flat (map entry_row es)) ++ z ≡ e.device ++ (x ++ y) =
    append_assoc (e.device ++ x) (flat (map entry_row es)) z ∙ append_assoc e.device x y in
    let n : length e.device ≡ 7 = a.0.device.long in
    let i : entry_size * 0 + mask_at ≡ length e.device + 0 = omega arith in
    ap (λ (l : List ℕ). put l (entry_size * 0 + mask_at) v) g ∙ ap (λ (k : ℕ). put (e.device ++ (x ++ y)) k v) i
    ∙ put_right e.device (x ++ y) 0 v
    ∙ ap (λ (l : List ℕ). e.device ++ l)
    (over x v y (length-octets 2 e.mask) (length-octets 2 (bit_or e.mask bit)))
    ∙ sym (append_assoc (e.device ++ v) (flat (map entry_row es)) z ∙ append_assoc e.device v y)
mask-put (e ∷ es) (suc j) bit z a h =
    let v : List ℕ = octets_of 2 (bit_or (mask_at_place es j) bit) in
    let y : List ℕ = flat (map entry_row es) ++ z in
    let r : List ℕ = entry_row e in
    let n : length r ≡ entry_size = length-entry_row e a.0 in
    let i : entry_size * suc j + mask_at ≡ length r + (entry_size * j + mask_at) = omega arith in
    ap (λ (l : List ℕ). put l (entry_size * suc j + mask_at) v) (append_assoc r (flat (map entry_row es)) z)
    ∙ ap (λ (k : ℕ). put (r ++ y) k v) i
    ∙ put_right r y (entry_size * j + mask_at) v ∙ ap (λ (l : List ℕ). r ++ l) (mask-put es j bit z a.1 (omega arith))
    ∙ sym (append_assoc r (flat (map entry_row (with_bit es j bit))) z)

pub bit_length : (es : List IndexEntry) (j bit : ℕ) → length (with_bit es j bit) ≡ length es
unfolding with_bit
bit_length [] j bit = refl
bit_length (e ∷ es) zero bit = refl
bit_length (e ∷ es) (suc j) bit = ap suc (bit_length es j bit)

bit-fits : (es : List IndexEntry) (j bit : ℕ) → bit < 65536 → All Fitting es → All Fitting (with_bit es j bit)
unfolding with_bit
bit-fits [] j bit b a = a
bit-fits (e ∷ es) zero bit b a = (record { device = a.0.device; mask = or_lt 16 e.mask bit a.0.mask b }, a.1)
bit-fits (e ∷ es) (suc j) bit b a = (a.0, bit-fits es j bit b a.1)

-- a bit more
module _ (t : List ℕ) (j bit : ℕ) (l : length t ≡ entries_size) (b : j < most_pairs) (w : bit < 65536) {mask : ℕ}
    {v : List ℕ} {y : Bool}
    (em : mask ≡ number_at 2 t (entry_size * j + mask_at)) (ey : y ≡ leb (entry_size * j + mask_at + 2) (length t))
    (ev : v ≡ put_if y t (entry_size * j + mask_at) (octets_of 2 (bit_or mask bit))) where
  pub bit-written : (es : List IndexEntry) (k : ℕ) → Tabled es k t → j < k → Tabled (with_bit es j bit) k v
  unfolding entry_table
  bit-written es k g h =
      let z : List ℕ = replicate (entry_size * (most_pairs - length es)) 0 in
      let at : ℕ = entry_size * j + mask_at in
      let c : k ≡ length es = g.count in
      let i : j < length es = omega arith in
      let m : mask ≡ mask_at_place es j =
      number-of 2 t at em (omega arith) ∙ ap (λ (x : List ℕ). little 2 x at) g.table
      ∙ mask-read es j z g.fits i in
      let p : v ≡ put t at (octets_of 2 (bit_or mask bit)) =
      put_of t at (octets_of 2 (bit_or mask bit)) 2 (length t) ey (omega arith) ev in
      record {
        count = c ∙ sym (bit_length es j bit);
        most = subst (λ (n : ℕ). n ≤ most_pairs) (sym (bit_length es j bit)) g.most;
        fits = bit-fits es j bit w g.fits;
        table = p ∙ ap (λ (n : ℕ). put t at (octets_of 2 (bit_or n bit))) m
            ∙ ap (λ (x : List ℕ). put x at (octets_of 2 (bit_or (mask_at_place es j) bit))) g.table
            ∙ mask-put es j bit z g.fits i
            ∙ ap (λ (n : ℕ). flat (map entry_row (with_bit es j bit))
            ++ replicate {A = ℕ} (entry_size * (most_pairs - n)) 0) (sym (bit_length es j bit));
      }
