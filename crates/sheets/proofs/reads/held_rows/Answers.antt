use Rattle.std.proofs.Common.{arith, ap, length}
use Rattle.sheets.proofs.ReadingLaws.{holding-start, holding-on, holding-end}
use Rattle.sheets.proofs.reads.held_rows.Goals as goal

pub loop-row-init : goal.loop-row-init
loop-row-init c = holding-start c.args.text.now c.no_rows-rows.result _ _ c.line_at-names.ensures

pub line_at-line-requires : goal.line_at-line-requires
line_at-line-requires c = c.loop-row.invariant.low

pub loop-row-preserved : goal.loop-row-preserved
loop-row-preserved c = let l = c.loop-row in
    holding-on c.args.text.now c.no_rows-rows.result l.row-items l.at l.row-index l.invariant _ _
    (ap length c.no_rows-rows.ensures) (omega arith) c.line_at-line.ensures

pub returns : goal.returns
returns c = let l = c.loop-row in
    holding-end c.args.text.now c.no_rows-rows.result l.row-items l.at l.row-index l.invariant
    (ap length c.no_rows-rows.ensures) (omega arith)
