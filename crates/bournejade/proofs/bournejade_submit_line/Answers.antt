use Rattle.bournejade.specs.GivesLaws.{gave}
use Rattle.sessions.specs.Machine.{text}
use Rattle.bournejade.specs.NumberedLaws.{known-answer}
use Rattle.bournejade.proofs.bournejade_submit_line.Goals as goal

pub returns : goal.returns
returns c = let a = c.args in
    gave _ a.state.now a.out.now _ _ _ _ _ (known-answer _ a.state.now text a.line.now)
    c.submit_line-r.ensures c.told.ensures
