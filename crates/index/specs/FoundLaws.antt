-- What the search says of entries: a pair is noted in a new entry, or in the one that was found; and of rows: the
-- mask of the one found is what asking reads. Document 02, T-02. Assumes nothing.
use Prim.Native.Nat.{ℕ, zero, suc, ◌+◌, ◌-◌, ◌*◌, ◌≤◌, ◌<◌}
use Rattle.std.specs.Prelude.{◌≡◌, Bool, take, drop}
use Rattle.std.proofs.Math.Path.{refl, sym, ap, subst}
use Rattle.std.proofs.Common.{◌∙◌, add-zero, arith, eq-eqb, ne_eqb, eqb-true, length-take, take_at, length-take-le, get_or-take}
use Rattle.std.proofs.Math.Bool.{true, false}
use mathlib.Core.List.{List, [], ◌∷◌, ◌++◌, map}
use Rattle.std.proofs.Math.Dec.{eqb}
use Rattle.std.proofs.Math.ListN.{length, get_or}
use Rattle.laws.specs.Tests.{pick, sames}
use Rattle.laws.specs.Loops.{every}
use Rattle.laws.specs.LoopsLaws.{every_take, every_drop}
use Rattle.laws.specs.Rows.{row, rows}
use Rattle.laws.specs.RowsLaws.{row_at, length-rows, length-row}
use Rattle.octets.specs.Little.{little, value, octets_of, is_octet}
use Rattle.octets.specs.LittleLaws.{little-value, little-row}
use Rattle.rule.specs.Base.{All}
use Rattle.model.specs.Layout.{most_pairs}
use Rattle.wholes.specs.Layout.{device_size, entry_size, entries_size, mask_at}
use Rattle.wholes.specs.Index.{IndexEntry, entry_row, noted, with_handle, bit_of, mask_in}
use Rattle.wholes.specs.Sizes.{Seven, Fitting}
use Rattle.wholes.proofs.SizesLaws.{length-entry_row}
use Rattle.index.specs.Table.{place_in, Tabled, with_entry, with_bit}
use Rattle.index.specs.TableLaws.{value-test, table-rows}

-- a row that opens with a device is told by its number
row-test : (r d : List ℕ) → device_size ≤ length r → every is_octet r ≡ true → Seven d
    → eqb (little 7 r 0) (value d) ≡ sames (take device_size r) d
row-test r d n o s =
    ap (λ (v : ℕ). eqb v (value d)) (little-value 7 r 0 n)
    ∙ value-test (take device_size r) d (length-take-le device_size r n ∙ sym s.long)
    (every_take is_octet device_size r o) s.octets

pub entry-test : (e : IndexEntry) (d : List ℕ) → Fitting e → Seven d
    → eqb (little 7 (entry_row e) 0) (value d) ≡ sames e.device d
unfolding entry_row
entry-test e d f s =
    let t : take 7 (e.device ++ octets_of 2 e.mask) ≡ e.device =
    take_at e.device (octets_of 2 e.mask) 7 f.device.long in
    let n : length (e.device ++ octets_of 2 e.mask) ≡ entry_size = length-entry_row e f in
    ap (λ (v : ℕ). eqb v (value d)) (little-value 7 (e.device ++ octets_of 2 e.mask) 0 (omega arith) ∙ ap value t)
    ∙ value-test e.device d (f.device.long ∙ sym s.long) f.device.octets s.octets

module _ (d : List ℕ) (h : ℕ) (s : Seven d) where
  pub new : (es : List IndexEntry) → All Fitting es → place_in (value d) (map entry_row es) ≡ length es
      → noted d h es ≡ with_entry es d (bit_of h)
  unfolding place_in noted with_entry pick
  new [] a p = refl
  new (e ∷ es) a p = go (sames e.device d) (entry-test e d a.0 s) (new es a.1)
    where
      go : (t : Bool) → eqb (little 7 (entry_row e) 0) (value d) ≡ t
          → (place_in (value d) (map entry_row es) ≡ length es
          → noted d h es ≡ es ++ (record { device = d; mask = bit_of h } ∷ []))
          → pick t (with_handle h e ∷ es) (e ∷ noted d h es) ≡ e ∷ (es ++ (record { device = d; mask = bit_of h } ∷ []))
      go true z i =
          let y : place_in (value d) (map entry_row (e ∷ es)) ≡ 0 =
          ap (λ (b : Bool). pick b 0 (suc (place_in (value d) (map entry_row es)))) z in
          absurd (let w : length (e ∷ es) ≡ 0 = sym p ∙ y in omega arith)
      go false z i =
          let y : place_in (value d) (map entry_row (e ∷ es)) ≡ suc (place_in (value d) (map entry_row es)) =
          ap (λ (b : Bool). pick b 0 (suc (place_in (value d) (map entry_row es)))) z in
          ap (λ (l : List IndexEntry). e ∷ l)
          (i (let w : suc (place_in (value d) (map entry_row es)) ≡ length (e ∷ es) = sym y ∙ p in omega arith))

  pub old : (es : List IndexEntry) (j : ℕ) → All Fitting es → j ≡ place_in (value d) (map entry_row es) → j < length es
      → noted d h es ≡ with_bit es j (bit_of h)
  unfolding place_in noted with_bit with_handle pick
  old [] j a p b = absurd (omega arith)
  old (e ∷ es) j a p b = go (sames e.device d) j (entry-test e d a.0 s) p b (λ i. old es i a.1)
    where
      go : (t : Bool) (j : ℕ) → eqb (little 7 (entry_row e) 0) (value d) ≡ t
          → j ≡ place_in (value d) (map entry_row (e ∷ es)) → j < length (e ∷ es)
          → ((i : ℕ) → i ≡ place_in (value d) (map entry_row es) → i < length es → noted d h es ≡ with_bit es i (bit_of h))
          → pick t (with_handle h e ∷ es) (e ∷ noted d h es) ≡ with_bit (e ∷ es) j (bit_of h)
      go true j z p b f =
          let y : j ≡ 0 = p ∙ ap (λ (u : Bool). pick u 0 (suc (place_in (value d) (map entry_row es)))) z in
          ap (λ (i : ℕ). with_bit (e ∷ es) i (bit_of h)) (sym y)
      go false j z p b f =
          let y : j ≡ suc (place_in (value d) (map entry_row es)) =
          p ∙ ap (λ (u : Bool). pick u 0 (suc (place_in (value d) (map entry_row es)))) z in
          ap (λ (l : List IndexEntry). e ∷ l) (f (place_in (value d) (map entry_row es)) refl (omega arith))
          ∙ ap (λ (i : ℕ). with_bit (e ∷ es) i (bit_of h)) (sym y)

  -- of a table that was searched
  module _ (es : List IndexEntry) (k : ℕ) (t : List ℕ) (w : Tabled es k t) {j dev : ℕ} (n : dev ≡ value d)
      (p : j ≡ place_in dev (take k (rows entry_size most_pairs t))) where
    at_place : j ≡ place_in (value d) (map entry_row es)
    at_place = p ∙ ap (λ (v : ℕ). place_in v (take k (rows entry_size most_pairs t))) n
        ∙ ap (place_in (value d)) (table-rows es k t w)

    pub noted-new : j ≡ k → noted d h es ≡ with_entry es d (bit_of h)
    noted-new e = new es w.fits (sym at_place ∙ e ∙ w.count)

    pub noted-old : j < k → noted d h es ≡ with_bit es j (bit_of h)
    noted-old b = old es j w.fits at_place (let c = w.count in omega arith)

-- asking: of rows of octets
masks : (rs : List (List ℕ)) (d : List ℕ) → Seven d
    → ((i : ℕ) → i < length rs → (device_size ≤ length (get_or rs i [])) × (every is_octet (get_or rs i []) ≡ true))
    → (j : ℕ) → j ≡ place_in (value d) rs
    → ((j < length rs → little 2 (get_or rs j []) mask_at ≡ mask_in d rs) × (length rs ≤ j → 0 ≡ mask_in d rs))
unfolding place_in mask_in pick
masks [] d s f j p = (λ b. absurd (omega arith), λ b. refl)
masks (r ∷ rs) d s f j p =
    let q = f 0 (omega arith) in
    go (sames (take device_size r) d) j (row-test r d q.0 q.1 s) p (masks rs d s (λ i b. f (suc i) (omega arith)))
  where
    go : (t : Bool) (j : ℕ) → eqb (little 7 r 0) (value d) ≡ t → j ≡ place_in (value d) (r ∷ rs)
        → ((i : ℕ) → i ≡ place_in (value d) rs
        → ((i < length rs → little 2 (get_or rs i []) mask_at ≡ mask_in d rs) × (length rs ≤ i → 0 ≡ mask_in d rs)))
        → ((j < length (r ∷ rs) → little 2 (get_or (r ∷ rs) j []) mask_at ≡ pick t (little 2 r mask_at) (mask_in d rs))
        × (length (r ∷ rs) ≤ j → 0 ≡ pick t (little 2 r mask_at) (mask_in d rs)))
    go true j z p f =
        let y : j ≡ 0 = p ∙ ap (λ (u : Bool). pick u 0 (suc (place_in (value d) rs))) z in
        (λ b. ap (λ (i : ℕ). little 2 (get_or (r ∷ rs) i []) mask_at) y, λ b. absurd (omega arith))
    go false j z p f =
        let y : j ≡ suc (place_in (value d) rs) = p ∙ ap (λ (u : Bool). pick u 0 (suc (place_in (value d) rs))) z in
        let g = f (place_in (value d) rs) refl in
        (λ b. ap (λ (i : ℕ). little 2 (get_or (r ∷ rs) i []) mask_at) y ∙ g.0 (omega arith), λ b. g.1 (omega arith))

-- .. and of a table
module _ (t : List ℕ) (k : ℕ) (l : length t ≡ entries_size) (b : k ≤ most_pairs) (o : every is_octet t ≡ true)
    (d : List ℕ) (s : Seven d)
    {j dev : ℕ} (n : dev ≡ value d) (p : j ≡ place_in dev (take k (rows entry_size most_pairs t))) where
  abbrev rs : List (List ℕ)
  rs = take k (rows entry_size most_pairs t)

  long : length rs ≡ k
  long = length-take-le k (rows entry_size most_pairs t)
      (let n : length (rows entry_size most_pairs t) ≡ most_pairs = length-rows entry_size most_pairs t in omega arith)

  row_is : (i : ℕ) → i < k → get_or rs i [] ≡ row entry_size i t
  row_is i h = get_or-take k (rows entry_size most_pairs t) i [] h ∙ row_at entry_size most_pairs i t (omega arith)

  good : (i : ℕ) → i < length rs → (device_size ≤ length (get_or rs i [])) × (every is_octet (get_or rs i []) ≡ true)
  unfolding row
  good i h =
      let e : get_or rs i [] ≡ row entry_size i t = row_is i (omega (arith, long)) in
      let m : length (row entry_size i t) ≡ entry_size =
      length-row entry_size i most_pairs t (omega (arith, long)) (omega arith) in (
        subst (λ (r : List ℕ). device_size ≤ length r) (sym e) (omega arith),
        ap (every is_octet) e
            ∙ every_take is_octet entry_size (drop (entry_size * i) t) (every_drop is_octet (entry_size * i) t o),
      )

  found : (j < length rs → little 2 (get_or rs j []) mask_at ≡ mask_in d rs) × (length rs ≤ j → 0 ≡ mask_in d rs)
  found = masks rs d s good j (p ∙ ap (λ (v : ℕ). place_in v rs) n)

  pub mask-none : j ≡ k → 0 ≡ mask_in d rs
  mask-none e = found.1 (omega (arith, long))

  pub mask-there : j < k → {v : ℕ} → v ≡ little 2 t (entry_size * j + mask_at) → v ≡ mask_in d rs
  mask-there h e =
      e ∙ sym (little-row 2 entry_size j mask_at t (omega arith))
      ∙ ap (λ (r : List ℕ). little 2 r mask_at) (sym (row_is j h)) ∙ found.0 (omega (arith, long))
