use Rattle.desk.specs.WrittenLaws.{octet-so}
use Rattle.desk.proofs.octet_at.Goals as goal

pub returns : goal.returns
returns c = octet-so c.args.text.now
    c.args.at c.get8.ensures
    c.get8-2.ensures c.digit-high.ensures.0 c.digit-low.ensures.0
