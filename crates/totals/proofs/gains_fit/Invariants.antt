use Rattle.std.proofs.Common.{◌≡◌, length, drop, map}
use Rattle.totals.specs.Two.{every_two}
use Rattle.totals.specs.Table.{row_fits}
use Rattle.totals.specs.Gains.{wide_row}
use Rattle.totals.proofs.gains_fit.Given as goal

-- what is left tells as the whole does
abbrev pub invariant-loop-row : goal.invariant-loop-row
invariant-loop-row l = record {
  sixteen : length l.rows ≡ 16;
  told : every_two row_fits (drop (length l.yielded) l.rows) (drop (length l.yielded) (map wide_row l.d))
      ≡ every_two row_fits l.rows (map wide_row l.d);
}
