use Rattle.index.specs.AskedLaws.{told-by, told-nobody}
use Rattle.bournejade.proofs.numbers.watch_told.Goals as goal

pub returns-in-Some : goal.returns-in-Some
returns-in-Some c = told-by _ _ c.in-Some.is

pub returns-in-None : goal.returns-in-None
returns-in-None c = told-nobody _ c.in-None.is
