use Rattle.texts.specs.Text.{told}
use Rattle.stays.specs.Rows.{moment_text}
use Rattle.stays.specs.RowsLaws.{moment-given}
use Rattle.stays.proofs.moment.Goals as goal

pub returns-in-Some : goal.returns-in-Some
returns-in-Some c = rw c.in-Some.is (moment-given (told c.args.t) c.in-Some.from c.args.tick c.time.ensures c.day.ensures)

pub returns-in-None : goal.returns-in-None
unfolding moment_text
returns-in-None c = rw c.in-None.is c.time-in-None.ensures
