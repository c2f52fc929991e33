use Rattle.bournejade.specs.GivesLaws.{number-done, number-refused}
use Rattle.bournejade.proofs.numbers.number.Goals as goal

pub returns-in-Ok : goal.returns-in-Ok
returns-in-Ok g c = number-done _ _ c.in-Ok.is

pub returns-in-Err : goal.returns-in-Err
returns-in-Err g c = number-refused _ _ _ c.in-Err.is c.from.ensures
