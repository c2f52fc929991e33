use Rattle.sheets.proofs.ReadingLaws.{Holding}
use Rattle.sheets.proofs.reads.held_rows.Given as goal

abbrev pub invariant-loop-row : goal.invariant-loop-row
invariant-loop-row l = Holding l.text l.initial.row-items l.row-items l.at l.row-index
