use Rattle.model.specs.Quoted.{codes}
use Rattle.texts.specs.Text.{told}
use Rattle.stays.specs.RowsLaws.{frame-none, frame-some}
use Rattle.stays.proofs.Style.frame.Goals as goal

pub returns-then-frame-eq0 : goal.returns-then-frame-eq0
returns-then-frame-eq0 c = frame-none (told c.args.t) c.args.self
    c.args.frame c.if-frame-eq0.true c.none.ensures

pub returns : goal.returns
unfolding codes
returns c = frame-some (told c.args.t) c.args.self
    c.args.frame c.if-frame-eq0.false c.said.ensures
