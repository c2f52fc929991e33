use Rattle.reports.specs.ChoicesLaws.{adds-so}
use Rattle.reports.proofs.adds.Goals as goal

pub returns : goal.returns
returns c = adds-so c.args.asked c.args.words c.first_name.result
    c.first_name.ensures.0
