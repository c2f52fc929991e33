-- A row's totals and the table of sixteen rows: which sums fit, and what is left. Document 02, T-09 ("The sixteen
-- rows are one lent table of records"; "12, a total would pass 64 bits (sum signed, counts unsigned)"). Assumes
-- nothing.
use Rattle.std.specs.Prelude.{ℕ, ◌+◌, Bool, ◌&&◌, pos, ◌+ℤ◌}
use Rattle.totals.specs.declared.Row.{Row}
use Rattle.totals.specs.Sums.{count_fits, sum_fits}

-- refusal 12: "a total would pass 64 bits"
abbrev pub passes : ℕ
passes = 12

-- "The sixteen rows": one for each handle
abbrev pub table_rows : ℕ
table_rows = 16

-- the empty row
abbrev pub empty : Row
empty = record { packets = 0; reports = 0; ticks = 0; sum = pos 0 }

-- whether the totals of two rows add up within 64 bits
unfoldable pub row_fits : Row → Row → Bool
row_fits a d =
    count_fits (a.packets + d.packets)
    && (count_fits (a.reports + d.reports) && (count_fits (a.ticks + d.ticks) && sum_fits (a.sum +ℤ d.sum)))

-- each total added
unfoldable pub row_sum : Row → Row → Row
row_sum a d =
    record {
      packets = a.packets + d.packets;
      reports = a.reports + d.reports;
      ticks = a.ticks + d.ticks;
      sum = a.sum +ℤ d.sum;
    }
