-- What a frame adds to the rows, small: an octet for each total of a handle, and the rows changed in place by it.
-- Document 02, T-09 ("one lent table of records, changed in place by each frame"). Assumes no_gain.
use Rattle.std.specs.Prelude.{List, map, Bool, false, ◌&&◌, eqb, length}
use Rattle.std.proofs.Math.IntN.{sub_ℕ}
use Rattle.laws.specs.Tests.{pick}
use Rattle.totals.specs.declared.Row.{Row}
use Rattle.totals.specs.declared.Gain.{Gain}
use Rattle.totals.specs.Two.{every_two, map_two}
use Rattle.totals.specs.Table.{table_rows, row_fits, row_sum}

-- a gain of nothing
abbrev pub no_gain : Gain
no_gain = record { packets = 0; reports = 0; ticks = 0; level = 128 }

-- the row that a gain adds: its level less 128 is the sum
unfoldable pub wide_row : Gain → Row
wide_row g = record { packets = g.packets; reports = g.reports; ticks = g.ticks; sum = sub_ℕ g.level 128 }

-- a row after its turn: added to where it is to be and where its totals fit
unfoldable pub kept_row : Bool → Row → Row → Row
kept_row goes a d = pick (goes && row_fits a d) (row_sum a d) a

-- whether sixteen rows l and what the gains add stay within 64 bits; of a table of another length they do not
unfoldable pub fits_in : List Row → List Gain → Bool
fits_in l d = pick (eqb (length l) table_rows) (every_two row_fits l (map wide_row d)) false

-- the table after the gains, row by row; one of another length is left as it is
unfoldable pub gained_in : Bool → List Row → List Gain → List Row
gained_in goes l d = pick (eqb (length l) table_rows) (map_two (kept_row goes) l (map wide_row d)) l
