use Rattle.desk.specs.WrittenLaws.{colon-so}
use Rattle.desk.proofs.is_colon.Goals as goal

pub returns : goal.returns
returns c = colon-so c.args.text.now c.args.at c.get8.ensures
