-- Laws of the definitions in Month.
use Rattle.std.specs.Prelude.{ℕ, ◌+◌, ◌≡◌, ℤ, ◌+ℤ◌, length}
use Rattle.std.proofs.Math.Path.{refl, sym, ap}
use Rattle.std.proofs.Common.{◌∙◌, arith}
use mathlib.Core.List.{List, [], ◌∷◌, ◌++◌}
use Rattle.std.proofs.Math.IntN.{+ℤ_assoc, +ℤ_idl}
use Rattle.totals.specs.Two.{map_two}
use Rattle.totals.specs.Table.{empty, row_sum}
use Rattle.sessions.specs.Machine.{Machine}
use Rattle.model.specs.Types.{Model}
use Rattle.model.specs.Layout.{most_monitors}
use Rattle.model.specs.Frames.{Body, typed}
use Rattle.months.specs.Counts.{packets_in, reports_in, ticks_in, sum_in, row_in, rows_added}
use Rattle.months.specs.Tables.{table_of}
use Rattle.months.specs.TablesLaws.{length-table, table-two, table_same}
use Rattle.months.specs.Month.{Given, total, total_z, row_of, next, adds_of, givens, after_all, month}

total-append : (f : Given → ℕ) (xs ys : List Given) → total f (xs ++ ys) ≡ total f xs + total f ys
unfolding total
total-append f [] ys = omega arith
total-append f (x ∷ xs) ys = ap (λ (n : ℕ). f x + n) (total-append f xs ys) ∙ omega arith

total_z-append : (f : Given → ℤ) (xs ys : List Given) → total_z f (xs ++ ys) ≡ total_z f xs +ℤ total_z f ys
unfolding total_z
total_z-append f [] ys = sym (+ℤ_idl (total_z f ys))
total_z-append f (x ∷ xs) ys =
    ap (λ (z : ℤ). f x +ℤ z) (total_z-append f xs ys) ∙ sym (+ℤ_assoc (f x) (total_z f xs) (total_z f ys))

row-append : (xs ys : List Given) (h : ℕ) → row_of (xs ++ ys) h ≡ row_sum (row_of xs h) (row_of ys h)
unfolding row_of row_sum
row-append xs ys h =
    let p = total-append (λ x. packets_in h x.before x.frame) xs ys in
    let r = total-append (λ x. reports_in h x.before x.frame) xs ys in
    let t = total-append (λ x. ticks_in h x.before x.frame) xs ys in
    let s = total_z-append (λ x. sum_in h x.before x.frame) xs ys in
    λ i. record { packets = p i; reports = r i; ticks = t i; sum = s i }

module _ (M : Machine) (core : M.S → Model) (body : M.Body → Body) where
  pub length-month : (s : M.S) (bs : List M.Body) → length ((month M core body) s bs) ≡ most_monitors
  unfolding month
  length-month s bs = length-table (row_of ((givens M core body) s bs)) most_monitors

  -- no frames make empty rows; one frame more, before the others
  pub month-none : (s : M.S) → (month M core body) s [] ≡ table_of (λ h. empty) most_monitors
  unfolding month givens row_of total total_z
  month-none s = refl

  pub month-more : (s : M.S) (b : M.Body) (bs : List M.Body)
      → (month M core body) s (b ∷ bs)
      ≡ map_two row_sum ((adds_of M core body) s b) ((month M core body) ((next M core body) s b) bs)
  unfolding month givens row_of total total_z adds_of rows_added row_in row_sum table_of
  month-more s b bs =
      sym (table-two row_sum (row_in (core s) (typed (body b)))
      (row_of ((givens M core body) ((next M core body) s b) bs)) most_monitors)

  -- a list in two parts
  pub after-append : (s : M.S) (bs cs : List M.Body)
      → (after_all M core body) s (bs ++ cs) ≡ (after_all M core body) ((after_all M core body) s bs) cs
  unfolding after_all
  after-append s [] cs = refl
  after-append s (b ∷ bs) cs = after-append ((next M core body) s b) bs cs

  givens-append : (s : M.S) (bs cs : List M.Body) → (givens M core body) s (bs ++ cs) ≡ (givens M core body) s bs
      ++ (givens M core body) ((after_all M core body) s bs) cs
  unfolding givens after_all
  givens-append s [] cs = refl
  givens-append s (b ∷ bs) cs =
      ap (λ (l : List Given). record { before = core s; frame = typed (body b) } ∷ l)
      (givens-append ((next M core body) s b) bs cs)

  -- T-10, the law of the cut over lists of executed frames: "the row of a whole journal is the [sum] of the rows of
  -- its two parts, cut after any frame, the second part started from the state at the cut"
  pub month-cut : (s : M.S) (bs cs : List M.Body)
      → (month M core body) s (bs ++ cs)
      ≡ map_two row_sum ((month M core body) s bs) ((month M core body) ((after_all M core body) s bs) cs)
  unfolding month
  month-cut s bs cs =
      ap (λ (l : List Given). table_of (row_of l) most_monitors) (givens-append s bs cs)
      ∙ table_same (row_of ((givens M core body) s bs ++ (givens M core body) ((after_all M core body) s bs) cs))
      (λ h. row_sum (row_of ((givens M core body) s bs) h)
      (row_of ((givens M core body) ((after_all M core body) s bs) cs) h))
      (row-append ((givens M core body) s bs) ((givens M core body) ((after_all M core body) s bs) cs)) most_monitors
      ∙ sym (table-two row_sum (row_of ((givens M core body) s bs))
      (row_of ((givens M core body) ((after_all M core body) s bs) cs)) most_monitors)
