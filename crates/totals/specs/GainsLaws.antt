-- Laws of the definitions in Gains.
use Prim.Native.Nat.{ℕ, zero, suc, ◌+◌, ◌≤◌, ◌<◌}
use Rattle.std.specs.Prelude.{◌≡◌, Bool, eqb, ℤ, pos, ◌-ℤ◌, length, take, get_or, set, replicate}
use Rattle.std.proofs.Math.Path.{refl, sym, ap}
use Rattle.std.proofs.Common.{ap₂, ◌∙◌, arith}
use mathlib.Core.List.{List, [], ◌∷◌, map}
use Rattle.std.proofs.Math.Bool.{true, false}
use Rattle.std.proofs.Math.IntN.{sub_ℕ}
use Rattle.std.specs.Int.Signed.{mag}
use Rattle.std.proofs.lemmas.List.{length-map}
use lib.Seq.{take_all}
use Rattle.std.specs.Int.{w64}
use Rattle.std.proofs.lemmas.Int.{to_z-of_z}
use borrow.Author.Tests.{eq-eqb, lt-ltb, le-ltb}
use Rattle.laws.specs.Put.{put}
use Rattle.laws.specs.PutLaws.{put_copy, put-nil, length-put, get_d-put-after}
use Rattle.laws.specs.RowsLaws.{put_whole}
use Rattle.laws.specs.Tests.{pick}
use Rattle.laws.specs.TestsLaws.{pick_true, and_left, and_right, cases-le}
use Rattle.totals.specs.declared.Row.{Row}
use Rattle.totals.specs.declared.Gain.{Gain}
use Rattle.totals.specs.SumsLaws.{back}
use Rattle.totals.specs.Two.{every_two, map_two}
use Rattle.totals.specs.TwoLaws.{length-map-two, get_d-map-two}
use Rattle.totals.specs.Table.{empty, table_rows, row_fits, row_sum}
use Rattle.totals.specs.Gains.{no_gain, wide_row, kept_row, fits_in, gained_in}

pub no-gain-wide : wide_row no_gain ≡ empty
unfolding wide_row
no-gain-wide = refl

-- a gain's sum as the machine holds it
sub-mag : (n : ℕ) → n < 256 → mag (sub_ℕ n 128) < 9223372036854775808
sub-mag n h = cases-le 128 n (λ (u : 128 ≤ n). rw (le-ltb n 128 u) (omega arith))
    (λ (u : n < 128). rw (lt-ltb n 128 u) (omega arith))

pub level-reads : (n : ℕ) → n < 256 → {z : ℤ} → z ≡ pos n → back (back z -ℤ pos 128) ≡ sub_ℕ n 128
level-reads n h {z} e =
    let k : back z ≡ pos n = ap back e ∙ to_z-of_z w64 (pos n) (record { sfits = omega arith }) in
    ap (λ (y : ℤ). back (y -ℤ pos 128)) k ∙ to_z-of_z w64 (sub_ℕ n 128) (record { sfits = sub-mag n h })

pub wide-made : (g : Gain) {p r t : ℕ} {z : ℤ} → p ≡ g.packets → r ≡ g.reports → t ≡ g.ticks
    → z ≡ sub_ℕ g.level 128 → record { packets = p; reports = r; ticks = t; sum = z } ≡ wide_row g
unfolding wide_row
wide-made g ep er et e = λ i. record { packets = ep i; reports = er i; ticks = et i; sum = e i }

-- no gains, and one gain put in its place
pub no-gains-wide : {d : List Gain} → d ≡ replicate table_rows no_gain → map wide_row d ≡ replicate table_rows empty
unfolding wide_row
no-gains-wide e = ap (map wide_row) e

pub wide-set : (d : List Gain) (i : ℕ) (g : Gain) → map wide_row (set d i g) ≡ set (map wide_row d) i (wide_row g)
wide-set [] i g = refl
wide-set (x ∷ d) zero g = refl
wide-set (x ∷ d) (suc i) g = ap (λ (l : List Row). wide_row x ∷ l) (wide-set d i g)

-- the gain of a handle
pub get_d-wide : (d : List Gain) (i : ℕ) → get_or (map wide_row d) i empty ≡ wide_row (get_or d i no_gain)
get_d-wide [] i = sym no-gain-wide
get_d-wide (g ∷ d) zero = refl
get_d-wide (g ∷ d) (suc i) = get_d-wide d i

-- a handle within, by whatever stands for one past the last
pub gain-within : (d : List Gain) (i : ℕ) (x : Gain) → i < length d → get_or d i x ≡ get_or d i no_gain
gain-within [] i x h = absurd (omega arith)
gain-within (g ∷ d) zero x h = refl
gain-within (g ∷ d) (suc i) x h = gain-within d i x (omega arith)

-- the rows after i turns over the table ys of sixteen
module _ (ys : List Row) (gs : List Gain) (goes : Bool) (n : length ys ≡ table_rows) (m : length gs ≡ table_rows) where
  abbrev wides : List Row
  wides = map wide_row gs

  -- the table at the end
  abbrev pub last : List Row
  last = map_two (kept_row goes) ys wides

  abbrev pub upto : ℕ → List Row
  upto i = put ys 0 (take i last)

  long-wides : length wides ≡ table_rows
  long-wides = length-map gs wide_row ∙ m

  pub long-last : length last ≡ table_rows
  long-last = length-map-two (kept_row goes) ys wides (n ∙ sym long-wides) ∙ n

  pub upto-none : upto 0 ≡ ys
  upto-none = put-nil ys 0

  pub upto-long : (i : ℕ) → i ≤ 16 → length (upto i) ≡ 16
  upto-long i h = let k : length (take i last) ≡ i =
      length-take i in length-put ys 0 (take i last) (omega (arith, n)) ∙ n
    where
      length-take : (j : ℕ) → length (take i last) ≡ i
      length-take j = lib.Seq.length-take-le i last (omega (arith, long-last))

  pub upto-at : (i : ℕ) → i ≤ 16 → get_or (upto i) i empty ≡ get_or ys i empty
  upto-at i h =
      let k : length (take i last) ≡ i = lib.Seq.length-take-le i last (omega (arith, long-last)) in
      get_d-put-after ys 0 (take i last) i empty (omega arith) (omega arith)

  pub upto-more : (i : ℕ) → i < 16 → {a v : Row} → a ≡ get_or ys i empty
      → v ≡ kept_row goes a (wide_row (get_or gs i no_gain)) → set (upto i) i v ≡ upto (i + 1)
  upto-more i h {a} {v} e q =
      let w : v ≡ get_or last i empty =
      q ∙ ap₂ (kept_row goes) e (sym (get_d-wide gs i))
      ∙ sym (get_d-map-two (kept_row goes) ys wides i empty (omega (arith, n)) (omega (arith, long-wides))) in
      rw w (put_copy ys 0 last i empty {n = i} (omega (arith, n)) (omega (arith, long-last)) (omega arith) refl)

  pub upto-end : (i : ℕ) → i ≡ 16 → upto i ≡ gained_in goes ys gs
  unfolding gained_in
  upto-end i e =
      ap (put ys 0) (take_all i last (omega (arith, long-last, e))) ∙ put_whole ys last (n ∙ sym long-last)
      ∙ sym (pick_true last ys (eq-eqb (length ys) table_rows n))

pub gained-long : (goes : Bool) (l : List Row) (d : List Gain) → length d ≡ table_rows
    → length (gained_in goes l d) ≡ length l
unfolding gained_in pick
gained-long goes l d m = go (eqb (length l) table_rows) refl
  where
    go : (t : Bool) → eqb (length l) table_rows ≡ t
        → length (pick t (map_two (kept_row goes) l (map wide_row d)) l) ≡ length l
    go true e = length-map-two (kept_row goes) l (map wide_row d)
        (borrow.Author.Tests.eqb-true (length l) table_rows e ∙ sym (length-map d wide_row ∙ m))
    go false e = refl

-- a table of another length
pub gain-other : (goes : Bool) (l : List Row) (d : List Gain) → eqb (length l) table_rows ≡ false
    → (false ≡ fits_in l d) × (l ≡ gained_in goes l d)
unfolding fits_in gained_in pick
gain-other goes l d e = (rw e, rw e)

-- a table that is only asked, and one whose sums all fit
pub asked-same : (l : List Row) (d : List Gain) → length d ≡ table_rows → gained_in false l d ≡ l
unfolding gained_in pick kept_row map_two
asked-same l d m = go (eqb (length l) table_rows) refl
  where
    kept : (a b : List Row) → length a ≡ length b → map_two (kept_row false) a b ≡ a
    kept [] b e = refl
    kept (x ∷ a) [] e = absurd (omega arith)
    kept (x ∷ a) (y ∷ b) e = ap (λ (l : List Row). x ∷ l) (kept a b (omega arith))

    go : (t : Bool) → eqb (length l) table_rows ≡ t → pick t (map_two (kept_row false) l (map wide_row d)) l ≡ l
    go true e = kept l (map wide_row d)
        (borrow.Author.Tests.eqb-true (length l) table_rows e ∙ sym (length-map d wide_row ∙ m))
    go false e = refl

kept-all : (a b : List Row) → every_two row_fits a b ≡ true → map_two (kept_row true) a b ≡ map_two row_sum a b
unfolding map_two every_two kept_row
kept-all [] b e = refl
kept-all (x ∷ a) [] e = refl
kept-all (x ∷ a) (y ∷ b) e =
    let h : row_fits x y ≡ true = and_left (row_fits x y) (every_two row_fits a b) e in
    let k : map_two (kept_row true) a b ≡ map_two row_sum a b =
    kept-all a b (and_right (row_fits x y) (every_two row_fits a b) e) in
    ap₂ (λ (r : Row) (l : List Row). r ∷ l) (pick_true (row_sum x y) x h) k

pub gained-all : (l : List Row) (d : List Gain) → length l ≡ table_rows → length d ≡ table_rows
    → every_two row_fits l (map wide_row d) ≡ true
    → gained_in true l d ≡ map_two row_sum l (map wide_row d)
unfolding gained_in
gained-all l d n m e = pick_true _ l (eq-eqb (length l) table_rows n) ∙ kept-all l (map wide_row d) e

pub fits-sixteen : (l : List Row) (d : List Gain) → length l ≡ table_rows
    → fits_in l d ≡ every_two row_fits l (map wide_row d)
unfolding fits_in
fits-sixteen l d n = pick_true _ false (eq-eqb (length l) table_rows n)
