-- "`--csv` reads back what it writes" (document 02, T-10): the text of sixteen rows is read as these rows, and
-- nothing else is read. Assumes nothing.
use Prim.Native.Nat.{ℕ, zero, suc, ◌+◌, ◌-◌, ◌*◌, ◌/◌, ◌%◌, ◌≤◌, ◌<◌}
use Rattle.std.specs.Prelude.{◌≡◌, Bool, true, false, ◌&&◌, eqb, leb, ltb, ℤ, length, get_or, drop, Option, None, Some}
use Rattle.std.proofs.Math.Path.{refl, ap}
use Rattle.std.proofs.Common.{sym, ◌∙◌, subst, arith}
use Rattle.std.proofs.lemmas.Bool.{false≢true}
use mathlib.Core.List.{List, [], ◌∷◌, ◌++◌}
use Rattle.std.proofs.Math.IntN.{pos, negsuc}
use borrow.Author.Tests.{le-ltb, le-leb, leb-true, ltb-true, ne_eqb}
use Rattle.laws.specs.Tests.{pick, sames}
use Rattle.laws.specs.TestsLaws.{pick_true, pick-false, sames-eq, sames-refl, and_both, and_left, and_right}
use Rattle.laws.specs.Loops.{every}
use Rattle.decimals.specs.Decimals.{decimal, decimal_in, value_from}
use Rattle.totals.specs.declared.Row.{Row}
use Rattle.totals.specs.Sums.{count_fits, sum_fits}
use Rattle.totals.specs.Table.{table_rows}
use Rattle.sheets.specs.Sheet.{names_then, signed, row_then, lines_from, sheet_text, word_of, behind, count_at, negative, sum_at, row_of, line_behind, rows_at, parsed, row_ok, read_sheet}

-- the greatest number of k + 1 digits, and one
unfoldable bound : ℕ → ℕ
bound zero = 10
bound (suc k) = 10 * bound k

value-append : (v : ℕ) (w : List ℕ) (c : ℕ) → value_from v (w ++ (c ∷ [])) ≡ value_from v w * 10 + (c - 48)
unfolding value_from
value-append v [] c = refl
value-append v (d ∷ w) c = value-append (v * 10 + (d - 48)) w c

-- a number's digits give the number
value-digits : (k n : ℕ) → n < bound k → value_from 0 (decimal_in k n) ≡ n
unfolding value_from decimal_in bound pick
value-digits zero n h = omega arith
value-digits (suc k) n h = go (value-digits k (n / 10) (omega arith)) (leb n 9)
  where
    go : value_from 0 (decimal_in k (n / 10)) ≡ n / 10 → (b : Bool)
        → value_from 0 (pick b ((48 + n) ∷ []) (decimal_in k (n / 10) ++ ((48 + n % 10) ∷ []))) ≡ n
    go q true = omega arith
    go q false =
        value-append 0 (decimal_in k (n / 10)) (48 + n % 10) ∙ rw q (omega arith)

-- digits alone
every_append : (f : ℕ → Bool) (w : List ℕ) (c : ℕ) → every f w ≡ true → f c ≡ true → every f (w ++ (c ∷ [])) ≡ true
unfolding every
every_append f [] c e g = and_both g refl
every_append f (d ∷ w) c e g =
    and_both (and_left (f d) (every f w) e) (every_append f w c (and_right (f d) (every f w) e) g)

digits : (k n : ℕ) → every (leb 48) (decimal_in k n) ≡ true
unfolding decimal_in every pick
digits zero n = and_both (le-leb 48 (48 + n % 10) (omega arith)) refl
digits (suc k) n = go (digits k (n / 10)) (leb n 9)
  where
    go : every (leb 48) (decimal_in k (n / 10)) ≡ true → (b : Bool)
        → every (leb 48) (pick b ((48 + n) ∷ []) (decimal_in k (n / 10) ++ ((48 + n % 10) ∷ []))) ≡ true
    go q true = and_both (le-leb 48 (48 + n) (omega arith)) refl
    go q false = every_append (leb 48) (decimal_in k (n / 10)) (48 + n % 10) q (le-leb 48 (48 + n % 10) (omega arith))

solid : (w : List ℕ) → every (leb 48) w ≡ true → every (leb 45) w ≡ true
unfolding every
solid [] e = refl
solid (c ∷ w) e =
    let h : 48 ≤ c = leb-true 48 c (and_left (leb 48 c) (every (leb 48) w) e) in
    and_both (le-leb 45 c (omega arith)) (solid w (and_right (leb 48 c) (every (leb 48) w) e))

-- a word and what ends it
module _ (e : ℕ) (rest : List ℕ) (h : ltb e 45 ≡ true) where
  word : (w : List ℕ) → every (leb 45) w ≡ true → word_of (w ++ (e ∷ rest)) ≡ w
  unfolding word_of every
  word [] s = pick_true [] (e ∷ word_of rest) h
  word (c ∷ w) s =
      let g : 45 ≤ c = leb-true 45 c (and_left (leb 45 c) (every (leb 45) w) s) in
      pick-false [] (c ∷ word_of (w ++ (e ∷ rest))) (le-ltb c 45 g)
      ∙ ap (λ (l : List ℕ). c ∷ l) (word w (and_right (leb 45 c) (every (leb 45) w) s))

  passed : (w : List ℕ) → every (leb 45) w ≡ true → behind (w ++ (e ∷ rest)) ≡ rest
  unfolding behind every
  passed [] s = pick_true rest (behind rest) h
  passed (c ∷ w) s =
      let g : 45 ≤ c = leb-true 45 c (and_left (leb 45 c) (every (leb 45) w) s) in
      pick-false (w ++ (e ∷ rest)) (behind (w ++ (e ∷ rest))) (le-ltb c 45 g)
      ∙ passed w (and_right (leb 45 c) (every (leb 45) w) s)

  -- a count
  count_past : (n : ℕ) → behind (decimal n ++ (e ∷ rest)) ≡ rest
  unfolding decimal
  count_past n = passed (decimal_in 19 n) (solid (decimal_in 19 n) (digits 19 n))

  count_at_lem : (n : ℕ) → n < bound 19 → count_at (decimal n ++ (e ∷ rest)) ≡ n
  unfolding decimal count_at
  count_at_lem n b = ap (value_from 0) (word (decimal_in 19 n) (solid (decimal_in 19 n) (digits 19 n))) ∙ value-digits 19 n b

  count-back : (n : ℕ) → count_fits n ≡ true → count_at (decimal n ++ (e ∷ rest)) ≡ n
  unfolding bound
  count-back n f = let g : n < 18446744073709551616 = ltb-true n 18446744073709551616 f in count_at_lem n (omega arith)

  -- a sum: a number's first digit is no minus
  first : (w : List ℕ) → every (leb 48) w ≡ true → eqb (get_or (w ++ (e ∷ rest)) 0 0) 45 ≡ false
  unfolding every
  first [] s = let g : e < 45 = ltb-true e 45 h in ne_eqb e 45 (λ z. omega arith)
  first (c ∷ w) s = let g : 48 ≤ c =
      leb-true 48 c (and_left (leb 48 c) (every (leb 48) w) s) in ne_eqb c 45 (λ z. omega arith)

  no_minus : (n : ℕ) → eqb (get_or (decimal n ++ (e ∷ rest)) 0 0) 45 ≡ false
  unfolding decimal
  no_minus n = first (decimal_in 19 n) (digits 19 n)

  sum_past : (z : ℤ) → behind (signed z ++ (e ∷ rest)) ≡ rest
  unfolding signed behind pick
  sum_past (pos n) = count_past n
  sum_past (negsuc n) = count_past (suc n)

  sum_back : (z : ℤ) → sum_fits z ≡ true → sum_at (signed z ++ (e ∷ rest)) ≡ z
  unfolding signed sum_at bound negative pick
  sum_back (pos n) f =
      let g : n < 9223372036854775808 = ltb-true n 9223372036854775808 f in
      let t : List ℕ = decimal n ++ (e ∷ rest) in
      pick-false (negative (count_at (drop 1 t))) (pos (count_at t)) (no_minus n) ∙ ap pos (count_at_lem n (omega arith))
  sum_back (negsuc n) f =
      let g : n < 9223372036854775808 = ltb-true n 9223372036854775808 f in
      ap negative (count_at_lem (suc n) (omega arith))
      ∙ pick-false (pos 0) (negsuc (suc n - 1)) (ne_eqb (suc n) 0 (λ z. omega arith)) ∙ ap negsuc (omega arith)

-- a row
module _ (h : ℕ) (r : Row) (rest : List ℕ) where
  abbrev sum-text : List ℕ
  sum-text = signed r.sum ++ (10 ∷ rest)

  abbrev ticks-text : List ℕ
  ticks-text = decimal r.ticks ++ (44 ∷ sum-text)

  abbrev reports-text : List ℕ
  reports-text = decimal r.reports ++ (44 ∷ ticks-text)

  abbrev packets-text : List ℕ
  packets-text = decimal r.packets ++ (44 ∷ reports-text)

  past-handle : behind (row_then h r rest) ≡ packets-text
  unfolding row_then
  past-handle = count_past 44 packets-text refl h

  past-packets : behind packets-text ≡ reports-text
  past-packets = count_past 44 reports-text refl r.packets

  past-reports : behind reports-text ≡ ticks-text
  past-reports = count_past 44 ticks-text refl r.reports

  past-ticks : behind ticks-text ≡ sum-text
  past-ticks = count_past 44 sum-text refl r.ticks

  row-past : line_behind (row_then h r rest) ≡ rest
  unfolding line_behind
  row-past = rw (past-handle, past-packets, past-reports, past-ticks) (sum_past 10 rest refl r.sum)

  row_back : row_ok r ≡ true → row_of (row_then h r rest) ≡ r
  unfolding row_of row_ok
  row_back e =
      let e₁ = and_right (count_fits r.packets) _ e in
      let e₂ = and_right (count_fits r.reports) _ e₁ in
      let a = count-back 44 reports-text refl r.packets (and_left _ _ e) in
      let b = count-back 44 ticks-text refl r.reports (and_left _ _ e₁) in
      let c = count-back 44 sum-text refl r.ticks (and_left _ _ e₂) in
      let d = sum_back 10 rest refl r.sum (and_right (count_fits r.ticks) _ e₂) in
      rw (past-handle, past-packets, past-reports, past-ticks, a, b, c, d)

-- the rows of the lines
lines-back : (h : ℕ) (rows : List Row) → every row_ok rows ≡ true → rows_at (length rows) (lines_from h rows) ≡ rows
unfolding lines_from rows_at every
lines-back h [] e = refl
lines-back h (r ∷ rs) e =
    rw (
      row_back h r (lines_from (suc h) rs) (and_left (row_ok r) (every row_ok rs) e),
      row-past h r
          (lines_from (suc h) rs),
    )
    (ap (λ (l : List Row). r ∷ l) (lines-back (suc h) rs (and_right (row_ok r) (every row_ok rs) e)))

-- the names are five words
names-past : (t : List ℕ) → line_behind (names_then t) ≡ t
unfolding names_then line_behind behind pick
names-past t = refl

parsed-back : (rows : List Row) → length rows ≡ table_rows → every row_ok rows ≡ true → parsed (sheet_text rows) ≡ rows
unfolding parsed sheet_text
parsed-back rows n e = rw (names-past (lines_from 0 rows), ← n) (lines-back 0 rows e)

-- WHAT IS WRITTEN IS READ BACK
pub reads-back : (rows : List Row) → length rows ≡ table_rows → every row_ok rows ≡ true
    → read_sheet (sheet_text rows) ≡ Some rows
unfolding read_sheet
reads-back rows n e = rw (parsed-back rows n e) (pick_true (Some rows) None (and_both e (sames-refl (sheet_text rows))))

-- .. AND NOTHING ELSE IS READ
pub length-rows : (n : ℕ) (t : List ℕ) → length (rows_at n t) ≡ n
unfolding rows_at
length-rows zero t = refl
length-rows (suc n) t = ap suc (length-rows n (line_behind t))

pub only-written : (t : List ℕ) (rows : List Row) → read_sheet t ≡ Some rows → (t ≡ sheet_text rows)
    × (length rows ≡ table_rows) × (every row_ok rows ≡ true)
unfolding read_sheet pick parsed
only-written t rows = go (every row_ok (parsed t) && sames (sheet_text (parsed t)) t) refl
  where
    go : (b : Bool) → (every row_ok (parsed t) && sames (sheet_text (parsed t)) t) ≡ b
        → pick b (Some (parsed t)) None ≡ Some rows
        → (t ≡ sheet_text rows) × (length rows ≡ table_rows) × (every row_ok rows ≡ true)
    go true e q =
        let i : parsed t ≡ rows = ap (λ (o : Option (List Row)). elim o [ None ↦ [] | Some x ↦ x ]) q in (
          sym (sames-eq (sheet_text (parsed t)) t (and_right (every row_ok (parsed t)) _ e)) ∙ ap sheet_text i,
          sym (ap length i) ∙ length-rows table_rows (line_behind t),
          subst (λ (l : List Row). every row_ok l ≡ true) i (and_left (every row_ok (parsed t)) _ e),
        )
    go false e q = absurd (false≢true (ap (λ (o : Option (List Row)). elim o [ None ↦ false | Some x ↦ true ]) q))
