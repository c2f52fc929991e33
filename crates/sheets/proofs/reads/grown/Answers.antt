use Rattle.sheets.proofs.LeastLaws.{grown-held}
use Rattle.sheets.proofs.reads.grown.Goals as goal

pub returns : goal.returns
returns c = grown-held c.args.value c.args.d c.saturating_mul.ensures c.saturating_add.ensures
