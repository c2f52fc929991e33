-- Laws of the definitions in Reading.
use Prim.Native.Nat.{ℕ, suc, ◌+◌, ◌-◌, ◌≤◌, ◌<◌}
use Rattle.std.specs.Prelude.{◌≡◌, Bool, true, false, ◌&&◌, ℤ, pos, length, take, set, None, Some}
use Rattle.std.proofs.Math.Path.{refl, sym, ap}
use Rattle.std.proofs.Common.{◌∙◌, add-zero, add-one, get_or-drop, take_all, to_z, of_z}
use Rattle.std.proofs.lemmas.Bool.{false≢true}
use mathlib.Core.List.{List, [], ◌∷◌, map}
use native.Mathlib.Omega.{arith}
use Rattle.std.proofs.Math.Dec.{eqb}
use Rattle.std.proofs.Math.ListN.{drop, get_or, drop_of_length-le, get_or-eq_default}
use Rattle.std.proofs.lemmas.List.{length-map}
use Rattle.std.proofs.Math.Seq.{drop-cons}
use Rattle.std.specs.Int.{w64}
use borrow.Author.Tests.{lt-ltb, le-ltb, eqb-true}
use Rattle.laws.specs.Tests.{pick, sames}
use Rattle.laws.specs.TestsLaws.{pick_true, pick-false, sames-eq, and_left, and_right, cases-le}
use Rattle.laws.specs.Loops.{every}
use Rattle.laws.specs.Put.{put}
use Rattle.laws.specs.PutLaws.{put-nil, put_copy}
use Rattle.laws.specs.RowsLaws.{put_whole}
use Rattle.totals.specs.declared.Row.{Row}
use Rattle.totals.specs.Table.{table_rows, empty}
use Rattle.sheets.specs.Sheet.{word_of, behind, count_at, negative, sum_at, row_of, line_behind, rows_at, parsed, row_ok, sheet_text, read_sheet}
use Rattle.sheets.specs.Least.{up_to, least, least_sum, least_row, grown}
use Rattle.sheets.proofs.LeastLaws.{grown_from, grown-is, above-least, below-least, held-ok, held-is}
use Rattle.sheets.proofs.SignsLaws.{held_back}
use Rattle.sheets.proofs.BackLaws.{reads-back, length-rows}
use Rattle.sheets.specs.Reading.{Counted, Summed, Lined, held}

-- a number at a place, and the place behind it: what the code's loop holds at index i, with the value so far
pub record Counting (t : List ℕ) (at i value : ℕ) : Type 0 where
  pub low : i ≤ length t
  pub value-left : grown_from value (word_of (drop i t)) ≡ least (count_at (drop at t))
  pub text-left : behind (drop i t) ≡ behind (drop at t)

module _ (t : List ℕ) (at : ℕ) where
  pub counting-start : at ≤ length t → Counting t at at 0
  unfolding count_at least up_to pick
  counting-start h = record { low = h; value-left = grown-is 0 (word_of (drop at t)); text-left = refl }

  module _ (i value : ℕ) (g : Counting t at i value) where
    pub counting-stop : i < length t → get_or t i 0 < 45 → Counted t at value (i + 1)
    unfolding word_of behind grown_from
    counting-stop h k =
        let c = drop-cons t i 0 h in
        let l = lt-ltb (get_or t i 0) 45 k in
        record {
          is = sym (ap (λ (x : List ℕ). grown_from value (word_of x)) c
              ∙ ap (grown_from value) (pick_true [] (get_or t i 0 ∷ word_of (drop (suc i) t)) l)) ∙ g.value-left;
          rest = ap (λ (n : ℕ). drop n t) (add-one i)
              ∙ sym (ap behind c ∙ pick_true (drop (suc i) t) (behind (drop (suc i) t)) l) ∙ g.text-left;
          low = omega arith;
        }

    pub counting-on : {r : ℕ} → i < length t → 45 ≤ get_or t i 0 → r ≡ grown value (get_or t i 0 - 48)
        → Counting t at (i + 1) r
    unfolding word_of behind grown_from
    counting-on h k q =
        let c = drop-cons t i 0 h in
        let l = le-ltb (get_or t i 0) 45 k in
        record {
          low = omega arith;
          value-left = rw (add-one i, q)
              (sym (ap (λ (x : List ℕ). grown_from value (word_of x)) c
              ∙ ap (grown_from value) (pick-false [] (get_or t i 0 ∷ word_of (drop (suc i) t)) l)) ∙ g.value-left);
          text-left = rw (add-one i)
              (sym (ap behind c ∙ pick-false (drop (suc i) t) (behind (drop (suc i) t)) l) ∙ g.text-left);
        }

    pub counting-end : length t ≤ i → Counted t at value i
    unfolding word_of behind grown_from
    counting-end h =
        let e = drop_of_length-le t {i = i} h in
        record {
          is = sym (ap (λ (x : List ℕ). grown_from value (word_of x)) e) ∙ g.value-left;
          rest = e ∙ sym (ap behind e) ∙ g.text-left;
          low = g.low;
        }

first : (t : List ℕ) (at : ℕ) → get_or (drop at t) 0 0 ≡ get_or t at 0
first t at = get_or-drop at t 0 0 ∙ ap (λ (n : ℕ). get_or t n 0) (add-zero at)

pub past-minus : (t : List ℕ) (at : ℕ) → length t ≤ at → false ≡ eqb (get_or t at 0) 45
past-minus t at h = rw (get_or-eq_default t 0 {n = at} h)

pub minus-in : (t : List ℕ) (at : ℕ) → eqb (get_or t at 0) 45 ≡ true → at < length t
minus-in t at e = cases-le (length t) at (λ h. absurd (false≢true (past-minus t at h ∙ e))) (λ h. h)

module _ (t : List ℕ) (at value next : ℕ) {z : ℤ} where
  pub summed-below : at < length t → eqb (get_or t at 0) 45 ≡ true → Counted t (at + 1) value next
      → z ≡ least_sum (negative value) → Summed t at z next
  unfolding sum_at behind
  summed-below h k g q =
      let c = drop-cons t at 0 h in
      let n = ap (λ (n : ℕ). drop n t) (add-one at) in
      let d : drop 1 (drop at t) ≡ drop (at + 1) t = ap (drop 1) c ∙ sym n in
      record {
        is = q ∙ ap (λ (x : ℕ). least_sum (negative x)) g.is ∙ below-least (count_at (drop (at + 1) t))
            ∙ ap least_sum (sym
            (pick_true (negative (count_at (drop 1 (drop at t)))) (pos (count_at (drop at t)))
            (ap (λ (x : ℕ). eqb x 45) (first t at) ∙ k) ∙ ap (λ (x : List ℕ). negative (count_at x)) d));
        rest = g.rest ∙ ap behind n
            ∙ sym (ap behind c
            ∙ pick-false (drop (suc at) t) (behind (drop (suc at) t))
            (le-ltb (get_or t at 0) 45 (let e : get_or t at 0 ≡ 45 = eqb-true (get_or t at 0) 45 k in omega arith)));
        low = g.low;
      }

  pub summed-above : eqb (get_or t at 0) 45 ≡ false → Counted t at value next → z ≡ least_sum (pos value)
      → Summed t at z next
  unfolding sum_at
  summed-above k g q =
      record {
        is = q ∙ ap (λ (x : ℕ). least_sum (pos x)) g.is ∙ above-least (count_at (drop at t))
            ∙ ap least_sum (sym
            (pick-false (negative (count_at (drop 1 (drop at t)))) (pos (count_at (drop at t)))
            (ap (λ (x : ℕ). eqb x 45) (first t at) ∙ k)));
        rest = g.rest;
        low = g.low;
      }

pub summed-back : (t : List ℕ) (at next : ℕ) (z : ℤ) → Summed t at z next → Summed t at (to_z w64 (of_z w64 z)) next
summed-back t at next z g = record { is = held_back (sum_at (drop at t)) g.is; rest = g.rest; low = g.low }

pub lined : (t : List ℕ) (at h i p j n k v l : ℕ) (z : ℤ) (m : ℕ) → Counted t at h i → Counted t i p j
    → Counted t j n k → Counted t k v l → Summed t l z m
    → Lined t at (record { packets = p; reports = n; ticks = v; sum = z }) m
unfolding least_row row_of line_behind
lined t at h i p j n k v l z m a b c d e =
    let r₂ : drop j t ≡ behind (behind (drop at t)) = b.rest ∙ ap behind a.rest in
    let r₃ : drop k t ≡ behind (behind (behind (drop at t))) = c.rest ∙ ap behind r₂ in
    let r₄ : drop l t ≡ behind (behind (behind (behind (drop at t)))) = d.rest ∙ ap behind r₃ in
    record {
      is = rw (b.is, c.is, d.is, e.is, a.rest, r₂, r₃, r₄);
      rest = e.rest ∙ ap behind r₄;
      low = e.low;
    }

pub length-held : (t : List ℕ) → length (held t) ≡ table_rows
unfolding held parsed
length-held t = length-map (rows_at table_rows (line_behind t)) least_row ∙ length-rows table_rows (line_behind t)

-- the loop over the lines: behind h of them, at an index
pub record Holding (t : List ℕ) (l u : List Row) (at h : ℕ) : Type 0 where
  pub low : at ≤ length t
  pub most : h ≤ table_rows
  pub left : map least_row (rows_at (table_rows - h) (drop at t)) ≡ drop h (held t)
  pub done : u ≡ put l 0 (take h (held t))

module _ (t : List ℕ) (l : List Row) where
  pub holding-start : (row : Row) (at : ℕ) → Lined t 0 row at → Holding t l l at 0
  unfolding held parsed
  holding-start row at g =
      record {
        low = g.low;
        most = omega arith;
        left = ap (λ (x : List ℕ). map least_row (rows_at table_rows x)) g.rest;
        done = sym (put-nil l 0);
      }

  module _ (u : List Row) (at h : ℕ) (g : Holding t l u at h) where
    pub holding-on : (row : Row) (next : ℕ) → length l ≡ table_rows → h < table_rows → Lined t at row next
        → Holding t l (set u h row) next (h + 1)
    unfolding rows_at
    holding-on row next n k r =
        let s : table_rows - h ≡ suc (table_rows - (h + 1)) = omega arith in
        let m = length-held t in
        let c : least_row (row_of (drop at t))
        ∷ map least_row (rows_at (table_rows - (h + 1)) (line_behind (drop at t))) ≡ get_or (held t) h empty
        ∷ drop (suc h) (held t) =
        sym (ap (λ (j : ℕ). map least_row (rows_at j (drop at t))) s) ∙ g.left
        ∙ drop-cons (held t) h empty (omega (arith, m)) in
        let a : row ≡ get_or (held t) h empty = r.is ∙ ap (λ (x : List Row). get_or x 0 empty) c in
        record {
          low = r.low;
          most = omega arith;
          left = rw r.rest (ap (drop 1) c ∙ ap (λ (j : ℕ). drop j (held t)) (sym (add-one h)));
          done = rw a (put_copy l 0 (held t) h empty {n = h} (omega arith) (omega (arith, m)) (omega arith) g.done);
        }

    pub holding-end : length l ≡ table_rows → table_rows ≤ h → u ≡ held t
    holding-end n k = let m =
        length-held t in rw (g.done, take_all h (held t) (omega (arith, m))) (put_whole l (held t) (omega (arith, m)))

-- THE END: the rows held are read where their text is the text
pub read-so : (t : List ℕ) {rows : List Row} → rows ≡ held t → sames (sheet_text rows) t ≡ true
    → Some rows ≡ read_sheet t
unfolding held
read-so t {rows} q e =
    sym (ap read_sheet (sym (sames-eq (sheet_text rows) t e))
    ∙ reads-back rows (ap length q ∙ length-held t) (ap (every row_ok) q ∙ held-ok (parsed t)))

pub read_none : (t : List ℕ) {rows : List Row} → rows ≡ held t → sames (sheet_text rows) t ≡ false
    → None ≡ read_sheet t
unfolding read_sheet held pick
read_none t {rows} q e = go (every row_ok (parsed t) && sames (sheet_text (parsed t)) t) refl
  where
    go : (b : Bool) → (every row_ok (parsed t) && sames (sheet_text (parsed t)) t) ≡ b
        → None ≡ pick b (Some (parsed t)) None
    go false f = refl
    go true f =
        let k = held-is (parsed t) (and_left (every row_ok (parsed t)) (sames (sheet_text (parsed t)) t) f) in
        absurd (false≢true
        (sym e ∙ ap (λ (x : List Row). sames (sheet_text x) t) (q ∙ k)
        ∙ and_right (every row_ok (parsed t)) (sames (sheet_text (parsed t)) t) f))
