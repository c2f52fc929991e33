-- Laws of the definitions in Table.
use Rattle.std.specs.Prelude.{◌+◌, ◌<◌, ◌≡◌, true, ◌&&◌, ◌+ℤ◌}
use Rattle.std.specs.Int.Signed.{mag}
use Rattle.std.proofs.Common.{ltb-true}
use Rattle.laws.specs.TestsLaws.{and_left, and_right}
use Rattle.totals.specs.declared.Row.{Row}
use Rattle.totals.specs.Sums.{count_fits, sum_fits}
use Rattle.totals.specs.Table.{row_fits}

-- what two rows that add up tell of each total
pub record Fitting (a d : Row) : Type 0 where
  pub packets : a.packets + d.packets < 18446744073709551616
  pub reports : a.reports + d.reports < 18446744073709551616
  pub ticks : a.ticks + d.ticks < 18446744073709551616
  pub sum : mag (a.sum +ℤ d.sum) < 9223372036854775808

pub fitting : (a d : Row) → row_fits a d ≡ true → Fitting a d
unfolding row_fits
fitting a d e =
    let p = count_fits (a.packets + d.packets) in
    let q = count_fits (a.reports + d.reports) in
    let t = count_fits (a.ticks + d.ticks) in
    let s = sum_fits (a.sum +ℤ d.sum) in
    let e1 : (q && (t && s)) ≡ true = and_right p (q && (t && s)) e in
    let e2 : (t && s) ≡ true = and_right q (t && s) e1 in
    record {
      packets = ltb-true (a.packets + d.packets) 18446744073709551616 (and_left p (q && (t && s)) e);
      reports = ltb-true (a.reports + d.reports) 18446744073709551616 (and_left q (t && s) e1);
      ticks = ltb-true (a.ticks + d.ticks) 18446744073709551616 (and_left t s e2);
      sum = ltb-true (mag (a.sum +ℤ d.sum)) 9223372036854775808 (and_right t s e2);
    }
