-- Laws of the definitions in Join.
use Rattle.std.specs.Prelude.{ℕ, refl, ◌+◌, ◌<◌, ◌≡◌, true, false, ℤ, ◌+ℤ◌, Option, Some, None, is_some, unwrap_or}
use Rattle.std.proofs.Common.{sym, ap, ◌∙◌, arith, SFits, lt-ltb, le-ltb}
use Rattle.std.proofs.Math.IntN.{+ℤ_comm, +ℤ_assoc, +ℤ_idr}
use Rattle.std.specs.Int.Signed.{mag}
use Rattle.std.specs.Int.{w64}
use Rattle.laws.specs.Tests.{pick}
use Rattle.laws.specs.TestsLaws.{pick_true, pick-false, and_both, and-not-left, and-not-right}
use Rattle.totals.specs.declared.Row.{Row}
use Rattle.totals.specs.Sums.{count_fits}
use Rattle.totals.specs.SumsLaws.{back, sum_back, sum-fits-back, sum-read}
use Rattle.totals.specs.Table.{empty, row_fits, row_sum}
use Rattle.totals.specs.TableLaws.{fitting}
use Rattle.totals.specs.Gains.{kept_row}
use Rattle.totals.specs.Join.{join_of}

module _ (a b : Row) where
  pub sum_comm : row_sum a b ≡ row_sum b a
  unfolding row_sum
  sum_comm =
      let p : a.packets + b.packets ≡ b.packets + a.packets =
      omega arith in let r : a.reports + b.reports ≡ b.reports + a.reports = omega arith in
      let t : a.ticks + b.ticks ≡ b.ticks + a.ticks = omega arith in let s = +ℤ_comm a.sum b.sum in
      λ i. record { packets = p i; reports = r i; ticks = t i; sum = s i }

  pub fits-comm : row_fits a b ≡ row_fits b a
  unfolding row_fits
  fits-comm =
      let p : a.packets + b.packets ≡ b.packets + a.packets =
      omega arith in let r : a.reports + b.reports ≡ b.reports + a.reports = omega arith in
      let t : a.ticks + b.ticks ≡ b.ticks + a.ticks = omega arith in rw (p, r, t, +ℤ_comm a.sum b.sum)

  pub join-comm : join_of a b ≡ join_of b a
  unfolding join_of
  join-comm = rw (fits-comm, sum_comm)

pub sum-assoc : (a b c : Row) → row_sum (row_sum a b) c ≡ row_sum a (row_sum b c)
unfolding row_sum
sum-assoc a b c =
    let p : a.packets + b.packets + c.packets ≡ a.packets + (b.packets + c.packets) = omega arith in
    let r : a.reports + b.reports + c.reports ≡ a.reports + (b.reports + c.reports) = omega arith in
    let t : a.ticks + b.ticks + c.ticks ≡ a.ticks + (b.ticks + c.ticks) = omega arith in let s =
    +ℤ_assoc a.sum b.sum c.sum in
    λ i. record { packets = p i; reports = r i; ticks = t i; sum = s i }

-- no sum along the way passes 64 bits, whichever way is gone
pub join-assoc : (a b c : Row) → row_fits a b ≡ true → row_fits b c ≡ true → row_fits (row_sum a b) c ≡ true
    → row_fits a (row_sum b c) ≡ true → join_of (join_of a b) c ≡ join_of a (join_of b c)
unfolding join_of pick
join-assoc a b c h k m n = rw (h, k, m, n) (sum-assoc a b c)

pub sum-empty : (a : Row) → row_sum a empty ≡ a
unfolding row_sum
sum-empty a =
    let p : a.packets + 0 ≡ a.packets = omega arith in let r : a.reports + 0 ≡ a.reports =
    omega arith in let t : a.ticks + 0 ≡ a.ticks = omega arith in
    let s = +ℤ_idr a.sum in λ i. record { packets = p i; reports = r i; ticks = t i; sum = s i }

-- a total that passes 64 bits
module _ (a b : Row) where
  pub not-packets : (a.packets + b.packets < 18446744073709551616 → ⊥) → row_fits a b ≡ false
  unfolding row_fits
  not-packets h = and-not-left _ _ (le-ltb (a.packets + b.packets) 18446744073709551616 (omega arith))

  pub not-reports : (a.reports + b.reports < 18446744073709551616 → ⊥) → row_fits a b ≡ false
  unfolding row_fits
  not-reports h =
      and-not-right (count_fits (a.packets + b.packets)) _
      (and-not-left _ _ (le-ltb (a.reports + b.reports) 18446744073709551616 (omega arith)))

  pub not-ticks : (a.ticks + b.ticks < 18446744073709551616 → ⊥) → row_fits a b ≡ false
  unfolding row_fits
  not-ticks h =
      and-not-right (count_fits (a.packets + b.packets)) _
      (and-not-right (count_fits (a.reports + b.reports)) _
      (and-not-left _ _ (le-ltb (a.ticks + b.ticks) 18446744073709551616 (omega arith))))

  module _ (h : mag a.sum < 9223372036854775808) (k : mag b.sum < 9223372036854775808) where
    pub not-sum : (SFits w64 (back a.sum +ℤ back b.sum) → ⊥) → row_fits a b ≡ false
    unfolding row_fits
    not-sum n =
        let m : mag (a.sum +ℤ b.sum) < 9223372036854775808 → ⊥ =
        λ l. n (sum-fits-back a.sum b.sum h k l) in
        and-not-right (count_fits (a.packets + b.packets)) _
        (and-not-right (count_fits (a.reports + b.reports)) _
        (and-not-right (count_fits (a.ticks + b.ticks)) _
        (le-ltb (mag (a.sum +ℤ b.sum)) 9223372036854775808 (omega arith))))

    -- no total does
    pub all-fit : a.packets + b.packets < 18446744073709551616 → a.reports + b.reports < 18446744073709551616
        → a.ticks + b.ticks < 18446744073709551616 → SFits w64 (back a.sum +ℤ back b.sum) → row_fits a b ≡ true
    unfolding row_fits
    all-fit p r t s =
        let m : mag (a.sum +ℤ b.sum) < 9223372036854775808 = (rw (sum_back a.sum b.sum h k) at s).sfits in
        and_both (lt-ltb (a.packets + b.packets) 18446744073709551616 p)
        (and_both (lt-ltb (a.reports + b.reports) 18446744073709551616 r)
        (and_both (lt-ltb (a.ticks + b.ticks) 18446744073709551616 t)
        (lt-ltb (mag (a.sum +ℤ b.sum)) 9223372036854775808 m)))

    pub all-joined : {p r t : ℕ} {s : ℤ} → row_fits a b ≡ true → p ≡ a.packets + b.packets
        → r ≡ a.reports + b.reports → t ≡ a.ticks + b.ticks → s ≡ back a.sum +ℤ back b.sum
        → record { packets = p; reports = r; ticks = t; sum = back s } ≡ join_of a b
    unfolding row_sum join_of
    all-joined {p} {r} {t} {s} f ep er et es =
        let e : back s ≡ a.sum +ℤ b.sum =
        ap back es ∙ sum-read a.sum b.sum h k (fitting a b f).sum in
        sym (pick_true (row_sum a b) empty f ∙ (λ i. record {
          packets = sym ep i;
          reports = sym er i;
          ticks = sym et i;
          sum = sym e i;
        }))

-- the two ways of a join
module _ (a b : Row) {o : Option Row} where
  pub none-fits : o ≡ None → row_fits a b ≡ false → is_some o ≡ row_fits a b
  none-fits e f = ap is_some e ∙ sym f

  pub none-row : o ≡ None → row_fits a b ≡ false → unwrap_or o empty ≡ join_of a b
  unfolding join_of
  none-row e f = ap (λ (x : Option Row). unwrap_or x empty) e ∙ sym (pick-false (row_sum a b) empty f)

  -- the same of what is said of one
  module _ (fits : is_some o ≡ row_fits a b) (row : unwrap_or o empty ≡ join_of a b) where
    pub some-fits : {r : Row} → o ≡ Some r → row_fits a b ≡ true
    some-fits e = sym fits ∙ ap is_some e

    pub some_row : {r : Row} → o ≡ Some r → r ≡ row_sum a b
    unfolding join_of
    some_row {r} e =
        ap (λ (x : Option Row). unwrap_or x empty) (sym e) ∙ row ∙ pick_true (row_sum a b) empty (some-fits e)

    pub none-passes : o ≡ None → row_fits a b ≡ false
    none-passes e = sym fits ∙ ap is_some e

-- a row that is added to where its totals fit
pub kept : (a d : Row) (o : Option Row) → is_some o ≡ row_fits a d → unwrap_or o empty ≡ join_of a d
    → unwrap_or o a ≡ kept_row true a d
unfolding kept_row
kept a d None f r = sym (pick-false (row_sum a d) a (sym f))
kept a d (Some x) f r = some_row a d f r refl ∙ sym (pick_true (row_sum a d) a (sym f))
