use Rattle.model.specs.Quoted.{codes}
use Rattle.texts.specs.Text.{told}
use Rattle.stays.specs.RowsLaws.{day-none, day-some}
use Rattle.stays.proofs.day.Goals as goal

pub returns-then-days-eq0 : goal.returns-then-days-eq0
unfolding codes
returns-then-days-eq0 c = day-none (told c.args.t) c.args.days
    c.if-days-eq0.true c.with.ensures

pub returns : goal.returns
unfolding codes
returns c = day-some (told c.args.t) c.args.days
    c.if-days-eq0.false c.said.ensures
