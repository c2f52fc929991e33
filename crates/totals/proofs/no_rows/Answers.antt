use mathlib.Core.Path.{ap}
use lib.ListN.{replicate}
use Rattle.totals.specs.Table.{table_rows}
use Rattle.totals.proofs.no_rows.Goals as goal

pub returns : goal.returns
returns c = ap (replicate table_rows) c.no_row.ensures
