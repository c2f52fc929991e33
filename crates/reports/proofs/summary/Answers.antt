use Rattle.reports.specs.FitsLaws.{summary-whole}
use Rattle.model.specs.Quoted.{codes}
use Rattle.reports.proofs.summary.Goals as goal

pub returns : goal.returns
unfolding codes
returns c = let a = c.args in
    summary-whole a.flow a.position c.counted-counts.ensures
    c.pieced-piece.ensures c.with.ensures
