-- Laws of the definitions in Walk.
use Rattle.std.specs.Prelude.{ℕ, zero, suc, ◌+◌, ◌*◌, ◌/◌, ◌%◌, ◌^◌, ◌≤◌, ◌<◌, ◌≡◌, refl, Bool, true, false, List, [], ◌∷◌, ◌++◌, map, length, take, get_or, set}
use Rattle.std.proofs.Common.{sym, ◌∙◌, add-zero, mod-eq_of_lt, add-one, arith, length-append, take_at, drop_at, take_all, take-suc-set, get_or-take}
use Rattle.std.proofs.Math.Path.{ap}
use Rattle.std.proofs.Math.Nat.{zero-div}
use Rattle.std.specs.Int.Bits.{bit_or}
use Rattle.std.proofs.Math.Dec.{eqb}
use Rattle.std.proofs.Math.ListN.{get_or-map}
use Rattle.std.proofs.Math.Seq.{take-set-lt}
use Rattle.laws.specs.Tests.{pick, sames}
use Rattle.laws.specs.LoopsLaws.{map-append, map-take}
use Rattle.laws.specs.Rows.{rows}
use Rattle.laws.specs.RowsLaws.{row_at, length-rows}
use Rattle.octets.specs.Little.{little, value, octets_of}
use Rattle.octets.specs.LittleLaws.{little-value, little-drop, little-row, length-octets, value-octets}
use Rattle.rule.specs.Base.{All}
use Rattle.model.specs.Layout.{most_pairs}
use Rattle.wholes.specs.Layout.{entry_size}
use Rattle.wholes.specs.Index.{IndexEntry, bit_of, noted, entry_row}
use Rattle.wholes.specs.Sizes.{Seven, Fitting}
use Rattle.wholes.proofs.SizesLaws.{length-entry_row, noted-fits}
use Rattle.wholes.specs.Watched.{has_bit, mask_of}
use Rattle.index.specs.Table.{place_in, with_entry, with_bit}
use Rattle.index.specs.FoundLaws.{entry-test, new, old}
use Rattle.index.specs.WrittenLaws.{bit_length}
use Rattle.index.specs.Walk.{row_number, row_mask, device_number, mask_number, Tallied, Strange}

-- the row of an entry says what the entry does
entry-number : (e : IndexEntry) → Fitting e → row_number (entry_row e) ≡ device_number e
unfolding entry_row
entry-number e f =
    let n : length (e.device ++ octets_of 2 e.mask) ≡ entry_size = length-entry_row e f in
    little-value 7 (e.device ++ octets_of 2 e.mask) 0 (omega arith)
    ∙ ap value (take_at e.device (octets_of 2 e.mask) 7 f.device.long)

entry-mask : (e : IndexEntry) → Fitting e → row_mask (entry_row e) ≡ e.mask
unfolding entry_row
entry-mask e f =
    let x : List ℕ = octets_of 2 e.mask in
    let m : length x ≡ 2 = length-octets 2 e.mask in
    sym (little-drop 2 7 (e.device ++ x) 0)
    ∙ ap (λ (l : List ℕ). little 2 l 0) (drop_at e.device x 7 f.device.long)
    ∙ little-value 2 x 0 (omega arith) ∙ ap value (take_all 2 x (omega arith)) ∙ value-octets 2 e.mask
    ∙ mod-eq_of_lt f.mask

pub entry-numbers : (es : List IndexEntry) → All Fitting es → map row_number (map entry_row es) ≡ map device_number es
entry-numbers [] a = refl
entry-numbers (e ∷ es) a = rw (entry-number e a.0, entry-numbers es a.1)

pub entry-masks : (es : List IndexEntry) → All Fitting es → map row_mask (map entry_row es) ≡ map mask_number es
entry-masks [] a = refl
entry-masks (e ∷ es) a = rw (entry-mask e a.0, entry-masks es a.1)

-- the number at a place
none : row_number [] ≡ 0
unfolding little
none = refl

pub number-at : (t : List ℕ) (k j : ℕ) → j < k → k ≤ most_pairs
    → get_or (map row_number (take k (rows entry_size most_pairs t))) j 0 ≡ little 7 t (entry_size * j)
number-at t k j h b =
    let rs : List (List ℕ) = take k (rows entry_size most_pairs t) in
    ap (get_or (map row_number rs) j) (sym none) ∙ get_or-map row_number rs j []
    ∙ ap row_number (get_or-take k (rows entry_size most_pairs t) j [] h ∙ row_at entry_size most_pairs j t (omega arith))
    ∙ little-row 7 entry_size j 0 t (omega arith) ∙ ap (little 7 t) (add-zero (entry_size * j))

-- the place of a device is told by numbers alone
place_of : ℕ → List ℕ → ℕ
place_of dev [] = 0
place_of dev (n ∷ ns) = pick (eqb n dev) 0 (suc (place_of dev ns))

place-numbers : (dev : ℕ) (rs : List (List ℕ)) → place_in dev rs ≡ place_of dev (map row_number rs)
unfolding place_in place_of
place-numbers dev [] = refl
place-numbers dev (r ∷ rs) = ap (λ (n : ℕ). pick (eqb (little 7 r 0) dev) 0 (suc n)) (place-numbers dev rs)

-- the mask of a device is the one at its place
mask-place : (d : List ℕ) → Seven d → (es : List IndexEntry) → All Fitting es → (j : ℕ)
    → j ≡ place_in (value d) (map entry_row es)
    → ((j < length es → mask_of d es ≡ get_or (map mask_number es) j 0) × (length es ≤ j → mask_of d es ≡ 0))
unfolding place_in mask_of pick
mask-place d s [] a j p = (λ b. absurd (omega arith), λ b. refl)
mask-place d s (e ∷ es) a j p = go (sames e.device d) j (entry-test e d a.0 s) p
    (λ i. mask-place d s es a.1 i)
  where
    go : (t : Bool) (j : ℕ) → eqb (little 7 (entry_row e) 0) (value d) ≡ t
        → j ≡ place_in (value d) (map entry_row (e ∷ es))
        → ((i : ℕ) → i ≡ place_in (value d) (map entry_row es)
        → ((i < length es → mask_of d es ≡ get_or (map mask_number es) i 0) × (length es ≤ i → mask_of d es ≡ 0)))
        → ((j < length (e ∷ es) → pick t e.mask (mask_of d es) ≡ get_or (map mask_number (e ∷ es)) j 0)
        × (length (e ∷ es) ≤ j → pick t e.mask (mask_of d es) ≡ 0))
    go true j z p f =
        let y : j ≡ 0 = p ∙ ap (λ (u : Bool). pick u 0 (suc (place_in (value d) (map entry_row es)))) z in
        (λ b. ap (λ (i : ℕ). get_or (map mask_number (e ∷ es)) i 0) (sym y), λ b. absurd (omega arith))
    go false j z p f =
        let y : j ≡ suc (place_in (value d) (map entry_row es)) =
        p ∙ ap (λ (u : Bool). pick u 0 (suc (place_in (value d) (map entry_row es)))) z in
        let g = f (place_in (value d) (map entry_row es)) refl in
        (λ b. g.0 (omega arith) ∙ ap (λ (i : ℕ). get_or (map mask_number (e ∷ es)) i 0) (sym y), λ b. g.1 (omega arith))

-- a bit more in the mask of entry j
bit-devices : (es : List IndexEntry) (j bit : ℕ) → map device_number (with_bit es j bit) ≡ map device_number es
unfolding with_bit
bit-devices [] j bit = refl
bit-devices (e ∷ es) zero bit = refl
bit-devices (e ∷ es) (suc j) bit = ap (λ (l : List ℕ). device_number e ∷ l) (bit-devices es j bit)

bit-masks : (es : List IndexEntry) (j bit : ℕ)
    → map mask_number (with_bit es j bit) ≡ set (map mask_number es) j (bit_or (get_or (map mask_number es) j 0) bit)
unfolding with_bit
bit-masks [] j bit = refl
bit-masks (e ∷ es) zero bit = refl
bit-masks (e ∷ es) (suc j) bit = ap (λ (l : List ℕ). e.mask ∷ l) (bit-masks es j bit)

with-entry : (es : List IndexEntry) (d : List ℕ) (x : ℕ) {fs : List IndexEntry} → fs ≡ with_entry es d x
    → fs ≡ es ++ (record { device = d; mask = x } ∷ [])
unfolding with_entry
with-entry es d x e = e

-- a pair, at the place that was found for its device
module _ (es : List IndexEntry) (k : ℕ) (t masks : List ℕ) (w : Tallied es k t masks) (d : List ℕ) (h : ℕ)
    (s : Seven d)
    (m : length masks ≡ most_pairs)
    {j dev : ℕ} (n : dev ≡ value d) (p : j ≡ place_in dev (take k (rows entry_size most_pairs t))) where
  at_place : j ≡ place_in (value d) (map entry_row es)
  at_place =
      p ∙ place-numbers dev (take k (rows entry_size most_pairs t))
      ∙ ap (place_of dev) (w.devices ∙ sym (entry-numbers es w.fits))
      ∙ sym (place-numbers dev (map entry_row es)) ∙ ap (λ (v : ℕ). place_in v (map entry_row es)) n

  module _ (e : j ≡ k) where
    is-new : noted d h es ≡ with_entry es d (bit_of h)
    is-new = new d h s es w.fits (sym at_place ∙ e ∙ w.count)

    pub bit-new : has_bit h (mask_of d es) ≡ false
    unfolding has_bit
    bit-new =
        let z : mask_of d es ≡ 0 = (mask-place d s es w.fits j at_place).1 (let c = w.count in omega arith) in
        ap (λ (x : ℕ). eqb (x / 2 ^ h % 2) 1) z ∙ ap (λ (x : ℕ). eqb (x % 2) 1) (zero-div (2 ^ h))

    pub strange : (little 7 t (entry_size * k) ≡ dev → ⊥) → Strange es d h t
    strange f = (is-new, λ q. f (ap (λ (i : ℕ). little 7 t (entry_size * i)) w.count ∙ q ∙ sym n))

    pub tallied-new : k < most_pairs → little 7 t (entry_size * k) ≡ dev → {bit : ℕ} → bit ≡ bit_of h
        → Tallied (noted d h es) (k + 1) t (set masks k bit)
    tallied-new b q {bit} u =
        let a : IndexEntry = record { device = d; mask = bit_of h } in
        let rs : List (List ℕ) = rows entry_size most_pairs t in
        let l : length rs ≡ most_pairs = length-rows entry_size most_pairs t in
        let c : k ≡ length es = w.count in
        let g : noted d h es ≡ es ++ (a ∷ []) = is-entry in
        record {
          count = sym (ap length g ∙ length-append es (a ∷ []) ∙ omega arith);
          most = let z : length (noted d h es) ≡ length es + 1 = ap length g
              ∙ length-append es (a ∷ []) in omega arith;
          fits = noted-fits d h s es w.fits;
          devices = map-take row_number rs k [] (omega arith)
              ∙ ap (λ (x : List ℕ). x ++ (row_number (get_or rs k []) ∷ [])) w.devices
              ∙ ap (λ (x : ℕ). map device_number es ++ (x ∷ [])) (ap row_number (row_at entry_size most_pairs k t b)
              ∙ little-row 7 entry_size k 0 t (omega arith) ∙ ap (little 7 t) (add-zero (entry_size * k)) ∙ q ∙ n)
              ∙ sym (ap (map device_number) g ∙ map-append device_number es (a ∷ []));
          gathered = ap (λ (i : ℕ). take i (set masks k bit)) (add-one k) ∙ take-suc-set masks k bit (omega arith)
              ∙ ap (λ (x : List ℕ). x ++ (bit ∷ [])) w.gathered ∙ ap (λ (x : ℕ). map mask_number es ++ (x ∷ [])) u
              ∙ sym (ap (map mask_number) g ∙ map-append mask_number es (a ∷ []));
        }
      where
        is-entry : noted d h es ≡ es ++ (record { device = d; mask = bit_of h } ∷ [])
        is-entry = with-entry es d (bit_of h) is-new

  module _ (b : j < k) where
    is-old : noted d h es ≡ with_bit es j (bit_of h)
    is-old = old d h s es j w.fits at_place (let c = w.count in omega arith)

    same-mask : get_or masks j 0 ≡ get_or (map mask_number es) j 0
    same-mask = sym (get_or-take k masks j 0 b) ∙ ap (λ (l : List ℕ). get_or l j 0) w.gathered

    pub bit-old : has_bit h (mask_of d es) ≡ has_bit h (get_or masks j 0)
    bit-old = ap (has_bit h)
        ((mask-place d s es w.fits j at_place).0 (let c = w.count in omega arith) ∙ sym same-mask)

    pub tallied-old : {bit : ℕ} → bit ≡ bit_of h → Tallied (noted d h es) k t (set masks j (bit_or (get_or masks j 0) bit))
    tallied-old {bit} u =
        let g : length (noted d h es) ≡ length es = ap length is-old ∙ bit_length es j (bit_of h) in
        let c : k ≡ length es = w.count in
        let o : length es ≤ most_pairs = w.most in
        record {
          count = c ∙ sym g;
          most = omega arith;
          fits = noted-fits d h s es w.fits;
          devices = w.devices ∙ sym (ap (map device_number) is-old ∙ bit-devices es j (bit_of h));
          gathered = take-set-lt k masks j (bit_or (get_or masks j 0) bit) b
              ∙ ap (λ (x : List ℕ). set x j (bit_or (get_or masks j 0) bit)) w.gathered
              ∙ ap (λ (x : ℕ). set (map mask_number es) j (bit_or x bit)) same-mask
              ∙ ap (λ (x : ℕ). set (map mask_number es) j (bit_or (get_or (map mask_number es) j 0) x)) u
              ∙ sym (ap (map mask_number) is-old ∙ bit-masks es j (bit_of h));
        }
