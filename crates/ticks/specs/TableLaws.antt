-- Laws of the definitions in Table.
use Prim.Native.Nat.{ℕ, ◌+◌, ◌-◌, ◌*◌, ◌≤◌, ◌<◌}
use Rattle.std.specs.Prelude.{◌≡◌, refl, Bool, ◌&&◌, leb, ltb, drop, set, replicate}
use Rattle.std.proofs.Math.Path.{sym, ap}
use Rattle.std.proofs.Common.{◌∙◌, add-one, drop-drop, take-suc-set, take_all, ltb-true, le-leb, eq-eqb, ne_eqb}
use Rattle.std.proofs.Math.Bool.{true, false}
use mathlib.Core.List.{List, [], ◌∷◌}
use native.Mathlib.Omega.{arith}
use native.Mathlib.Nat.{zero-add}
use Rattle.std.proofs.Math.ListN.{length, take, get_or, length-append}
use borrow.Rule.Slice.PartMut.{put_mid}
use Rattle.laws.specs.TestsLaws.{pick_true, pick-false}
use Rattle.laws.specs.Put.{put, put_if}
use Rattle.laws.specs.PutLaws.{put-nil, put_of, put_then, take_put, drop-after-put}
use Rattle.laws.specs.Loops.{up_to}
use Rattle.laws.specs.LoopsLaws.{when_true, when_false, up_to-more}
use Rattle.laws.specs.Rows.{row}
use Rattle.laws.specs.RowsLaws.{length-row, get_d-row, put_whole}
use Rattle.octets.specs.Little.{little}
use Rattle.octets.specs.LittleLaws.{little-row}
use Rattle.octets.specs.Numbers.{number_at}
use Rattle.octets.specs.NumbersLaws.{number-of}
use Rattle.model.specs.Types.{ticks_of}
use Rattle.blocks.specs.Added.{filtering_of}
use Rattle.ticks.specs.Row.{goes_on, ticked_row, kept_row, told_on, told_row, run_in, period_in, kept_at, told_at}
use Rattle.ticks.specs.Written.{Appended}
use Rattle.ticks.specs.WrittenLaws.{put-over, put_same, mid-put, length-ticked, length-told}
use Rattle.model.specs.Layout.{report_most}
use Rattle.model.specs.Layout.{extra_at, handle_at, monitor_size, monitors_at, most_monitors, most_pairs, most_prefix, pair_size, pairs_size, since_good_at}
use Rattle.ticks.specs.Table.{Turned, Passed, Cleared, column_by, filter_by, filter_in}

-- a row's length
pub length-of : (i : ℕ) (t : List ℕ) → i < most_pairs → length t ≡ pairs_size → length (row pair_size i t) ≡ pair_size
length-of i t b h = length-row pair_size i most_pairs t b (omega arith)

-- rows moved: where a row stands already, or from behind
pub move_same : (to from : ℕ) (t : List ℕ) → to ≡ from → from < most_pairs → length t ≡ pairs_size
    → t ≡ put t (pair_size * to) (row pair_size from t)
unfolding row
move_same to from t e b h = rw e (sym (put_same t (pair_size * from) pair_size (omega arith)))

pub move_down : (to from : ℕ) (t : List ℕ) {b : Bool} {m : List ℕ} → to ≤ from → from < most_pairs
    → length t ≡ pairs_size
    → b ≡ (leb (pair_size * to) (pair_size * from) && leb (pair_size * from + pair_size) (length t))
    → m ≡ put_if b t (pair_size * to) (take pair_size (drop (pair_size * from) t))
    → m ≡ put t (pair_size * to) (row pair_size from t)
unfolding row put_if
move_down to from t e b h p q =
    rw (
      p,
      le-leb (pair_size * to) (pair_size * from) (omega arith),
      le-leb (pair_size * from + pair_size) (length t)
          (omega arith),
    ) at q

-- the row that stays: moved, and then ticked where it is
module _ (to from period : ℕ) (t : List ℕ) (h : to ≤ from) (b : from < most_pairs) (l : length t ≡ pairs_size)
    {m : List ℕ}
    (q : m ≡ put t (pair_size * to) (row pair_size from t)) where
  pub moved_row : take (pair_size * to + pair_size - pair_size * to) (drop (pair_size * to) m) ≡ row pair_size from t
  moved_row =
      let n : length (row pair_size from t) ≡ pair_size = length-of from t b l in
      let k : pair_size * to + pair_size - pair_size * to ≡ length (row pair_size from t) = omega arith in
      rw (k, q) (take_put t (pair_size * to) (row pair_size from t) (omega arith))

  pub kept_row_lem : {ys x : List ℕ}
      → ys ≡ ticked_row period (take (pair_size * to + pair_size - pair_size * to) (drop (pair_size * to) m))
      → x ≡ put_mid (pair_size * to) (pair_size * to + pair_size - pair_size * to) m ys
      → x ≡ put t (pair_size * to) (ticked_row period (row pair_size from t))
  kept_row_lem {ys} {x} e p =
      let n : length (row pair_size from t) ≡ pair_size = length-of from t b l in
      let w : ys ≡ ticked_row period (row pair_size from t) = rw moved_row at e in
      let k : length (ticked_row period (row pair_size from t)) ≡ pair_size =
      length-ticked period (row pair_size from t) n in
      let v : length ys ≡ pair_size * to + pair_size - pair_size * to = rw w (omega arith) in
      mid-put (pair_size * to) (pair_size * to + pair_size) m ys (omega arith) v p
      ∙ rw (w, q) (put-over t (pair_size * to) (row pair_size from t) (ticked_row period (row pair_size from t))
      (omega arith) (omega arith))

-- one row's turn, from what was read of the row and of the tables
module _ (intervals periods filters prefix t out : List ℕ) (i kept at : ℕ) (hp : length prefix ≤ most_prefix)
    (hi : i < most_pairs)
    (hl : length t ≡ pairs_size) {low run period silent w : ℕ} {on : Bool} {m : List ℕ}
    (e1 : low ≡ get_or intervals (get_or t (pair_size * i) 0) 0) (e2 : run ≡ ticks_of low)
    (e3 : period ≡ get_or periods (get_or t (pair_size * i) 0) 0) (e4 : silent ≡ number_at 2 t (pair_size * i + 8))
    (e5 : on ≡ ltb (silent + 1) run)
    (e6 : Appended out m at w
    (told_on on period filters prefix (take (pair_size * i + pair_size - pair_size * i) (drop (pair_size * i) t)))) where
  part-row : take (pair_size * i + pair_size - pair_size * i) (drop (pair_size * i) t) ≡ row pair_size i t
  unfolding row
  part-row = let k : pair_size * i + pair_size - pair_size * i ≡ pair_size =
      omega arith in ap (λ (n : ℕ). take n (drop (pair_size * i) t)) k

  first-is : get_or (row pair_size i t) handle_at 0 ≡ get_or t (pair_size * i) 0
  first-is = get_d-row pair_size i 0 t 0 (omega arith)
      ∙ ap (λ (n : ℕ). get_or t n 0) (native.Mathlib.Nat.add-zero (pair_size * i))

  silent-is : silent ≡ little 2 (row pair_size i t) since_good_at
  silent-is = number-of 2 t (pair_size * i + 8) e4 (omega arith) ∙ sym (little-row 2 pair_size i 8 t (omega arith))

  run_is : run ≡ run_in intervals (row pair_size i t)
  unfolding run_in
  run_is = e2 ∙ ap ticks_of e1 ∙ ap (λ (n : ℕ). ticks_of (get_or intervals n 0)) (sym first-is)

  period-is : period ≡ period_in periods (row pair_size i t)
  unfolding period_in
  period-is = e3 ∙ ap (λ (n : ℕ). get_or periods n 0) (sym first-is)

  on-is : on ≡ goes_on (run_in intervals (row pair_size i t)) (row pair_size i t)
  unfolding goes_on
  on-is = e5 ∙ rw (silent-is, run_is)

  told_is : told_on on period filters prefix (take (pair_size * i + pair_size - pair_size * i) (drop (pair_size * i) t))
      ≡ told_at intervals periods filters prefix t i
  unfolding told_at told_row
  told_is = rw (part-row, on-is, period-is)

  told : Appended out m at w (told_at intervals periods filters prefix t i)
  told = rw told_is at e6

  pub turn-room : w ≤ report_most
  turn-room =
      let n : length (row pair_size i t) ≡ pair_size = length-of i t hi hl in
      rw (e6.count, part-row) (length-told on period filters prefix (row pair_size i t) n hp)

  -- a row that stays is one tick from its run at most
  pub silent-most : on ≡ true → run ≤ 65535 → little 2 (row pair_size i t) since_good_at < 65535
  silent-most e b =
      let h : silent + 1 < run = ltb-true (silent + 1) run (sym e5 ∙ e) in
      let k : silent ≡ little 2 (row pair_size i t) since_good_at = silent-is in
      omega arith

  pub turn-stays : {l : List ℕ} → on ≡ true → l ≡ put t (pair_size * kept) (ticked_row period (row pair_size i t))
      → Turned t l out m kept at (kept + 1) (at + w) (kept_at intervals periods t i)
      (told_at intervals periods filters prefix t i)
  unfolding kept_at kept_row
  turn-stays {l} e q =
      let n : length (row pair_size i t) ≡ pair_size = length-of i t hi hl in
      let g : goes_on (run_in intervals (row pair_size i t)) (row pair_size i t) ≡ true = sym on-is ∙ e in
      let k : kept_at intervals periods t i ≡ ticked_row period (row pair_size i t) =
      when_true _ g ∙ ap (λ (p : ℕ). ticked_row p (row pair_size i t)) (sym period-is) in
      let j : length (ticked_row period (row pair_size i t)) ≡ pair_size = length-ticked period (row pair_size i t) n in
      let b : w ≤ report_most = turn-room in
      record {
        table = q ∙ ap (put t (pair_size * kept)) (sym k);
        size = rw k (omega arith);
        octets = told.put-there;
        count = ap (λ (x : ℕ). at + x) told.count;
        kept-most = omega arith;
        wrote-most = omega arith;
      }

  pub turn-ends : on ≡ false
      → Turned t t out m kept at kept (at + w) (kept_at intervals periods t i)
      (told_at intervals periods filters prefix t i)
  unfolding kept_at kept_row
  turn-ends e =
      let g : goes_on (run_in intervals (row pair_size i t)) (row pair_size i t) ≡ false = sym on-is ∙ e in
      let k : kept_at intervals periods t i ≡ [] = when_false _ g in
      let b : w ≤ report_most = turn-room in
      record {
        table = rw k (sym (put-nil t (pair_size * kept)));
        size = rw k (omega arith);
        octets = told.put-there;
        count = ap (λ (x : ℕ). at + x) told.count;
        kept-most = omega arith;
        wrote-most = omega arith;
      }

-- before the first row
pub passed_none : (t out : List ℕ) (f g : ℕ → List ℕ) → Passed t t out out 0 0 f g 0
unfolding up_to
passed_none t out f g = record { table = sym (put-nil t 0); size = refl; octets = sym (put-nil out 0); count = refl }

-- rows not yet passed are as they were
row-ahead : (t : List ℕ) (ys : List ℕ) (i : ℕ) {m : List ℕ} → length ys ≤ pair_size * i → m ≡ put t 0 ys
    → row pair_size i m ≡ row pair_size i t
unfolding row
row-ahead t ys i {m} h q =
    let d : drop (length ys) m ≡ drop (length ys) t =
    rw q (ap (λ (k : ℕ). drop k (put t 0 ys)) (sym (zero-add (length ys))) ∙ drop-after-put t 0 ys (omega arith)
    ∙ ap (λ (k : ℕ). drop k t) (zero-add (length ys))) in
    let e : length ys + (pair_size * i - length ys) ≡ pair_size * i = omega arith in
    ap (take pair_size) (ap (λ (k : ℕ). drop k m) (sym e) ∙ sym (drop-drop (pair_size * i - length ys) (length ys) m)
    ∙ ap (drop (pair_size * i - length ys)) d ∙ drop-drop (pair_size * i - length ys) (length ys) t
    ∙ ap (λ (k : ℕ). drop k t) e)

-- one row more
module _ (intervals periods filters prefix t₀ out₀ : List ℕ)
    (i : ℕ) {t out l m : List ℕ} {k n k' n' : ℕ} where
  pub passed-turn : k ≤ i
      → Passed t₀ t out₀ out k n (kept_at intervals periods t₀) (told_at intervals periods filters prefix t₀) i
      → Turned t l out m k n k' n' (kept_at intervals periods t i) (told_at intervals periods filters prefix t i)
      → Passed t₀ l out₀ m k' n' (kept_at intervals periods t₀) (told_at intervals periods filters prefix t₀) (i + 1)
  unfolding kept_at told_at
  passed-turn h p u =
      let f : ℕ → List ℕ = kept_at intervals periods t₀ in
      let g : ℕ → List ℕ = told_at intervals periods filters prefix t₀ in
      let z = p.size in
      let r : row pair_size i t ≡ row pair_size i t₀ = row-ahead t₀ (up_to f i) i (omega arith) p.table in
      let a : kept_at intervals periods t i ≡ f i = rw r in
      let b : told_at intervals periods filters prefix t i ≡ g i = rw r in
      record {
        table = put_then t₀ 0 (up_to f i) (pair_size * k) (f i) (omega arith) p.table (rw zero-add z)
            (rw a at u.table)
            (sym (up_to-more f i));
        size = rw (up_to-more f i, length-append (up_to f i) (f i), ← a) (omega (arith, z, u.size));
        octets = put_then out₀ 0 (up_to g i) n (g i) (omega arith) p.octets (rw zero-add p.count)
            (rw b at u.octets) (sym (up_to-more g i));
        count = rw (up_to-more g i, length-append (up_to g i) (g i), ← b) (omega (arith, p.count, u.count));
      }

-- the freed rows cleared
pub passed-cleared : (t₀ out₀ : List ℕ) (f g : ℕ → List ℕ) (i : ℕ) {t out l : List ℕ} {k n : ℕ} {b : Bool} → k ≤ i
    → n ≤ report_most * i → pair_size * i ≤ length t
    → Passed t₀ t out₀ out k n f g i → b ≡ leb (pair_size * k + pair_size * (i - k)) (length t)
    → l ≡ put_if b t (pair_size * k) (replicate (pair_size * (i - k)) 0)
    → Cleared t₀ l out₀ out k n f g i
passed-cleared t₀ out₀ f g i {t} {out} {l} {k} h w r p e q =
    let z : pair_size * k ≡ length (up_to f i) = p.size in
    record {
      table = put_then t₀ 0 (up_to f i) (pair_size * k) (replicate (pair_size * (i - k)) 0) (omega arith) p.table
          (rw zero-add z)
          (put_of t (pair_size * k) (replicate (pair_size * (i - k)) 0) (pair_size * (i - k)) (length t) e (omega arith)
          q) refl;
      size = z;
      octets = p.octets;
      count = p.count;
      kept-most = h;
      wrote-most = w;
    }

pub column-none : (f : ℕ → ℕ) (r : List ℕ) → take 0 r ≡ column_by f 0
unfolding column_by up_to
column-none f r = refl

pub column-turn : (f : ℕ → ℕ) (h : ℕ) (r : List ℕ) {x : ℕ} → x ≡ f h → h < length r → take h r ≡ column_by f h
    → take (h + 1) (set r h x) ≡ column_by f (h + 1)
unfolding column_by
column-turn f h r i b e = rw (i, up_to-more (λ j. f j ∷ []) h, ← e, add-one h) (take-suc-set r h (f h) b)

pub column-end : (f : ℕ → ℕ) (h : ℕ) (r : List ℕ) → h ≡ most_monitors → length r ≡ most_monitors
    → take h r ≡ column_by f h
    → r ≡ column_by f most_monitors
column-end f h r e l q = sym (take_all most_monitors r (omega arith)) ∙ rw e at q

pub filter-on : (filter options bits : ℕ) {r : ℕ} → filter ≡ 1 → r ≡ filtering_of options bits
    → r ≡ filter_by filter options bits
unfolding filter_by
filter-on filter options bits e q = q ∙ sym (pick_true _ 0 (eq-eqb filter 1 e))

pub filter-off : (filter options bits : ℕ) → (filter ≡ 1 → ⊥) → 0 ≡ filter_by filter options bits
unfolding filter_by
filter-off filter options bits n = sym (pick-false (filtering_of options bits) 0 (ne_eqb filter 1 n))

pub filter-made : (s : List ℕ) (filter h : ℕ) {r : ℕ}
    → r ≡ filter_by filter (get_or s (monitors_at + monitor_size * h + extra_at) 0)
    (get_or s (monitors_at + monitor_size * h + (extra_at + 1)) 0)
    → r ≡ filter_in s filter h
unfolding filter_in
filter-made s filter h e = e

-- a copy over a whole array
pub copy-whole : (z xs : List ℕ) {b : Bool} {m : List ℕ} → length xs ≡ length z → b ≡ leb (0 + length xs) (length z)
    → m ≡ put_if b z 0 xs
    → m ≡ xs
copy-whole z xs l e q = put_of z 0 xs (length xs) (length z) e (omega arith) q ∙ put_whole z xs (sym l)
