use Rattle.desk.specs.WrittenLaws.{pair-so}
use Rattle.desk.proofs.is_pair.Goals as goal

pub returns : goal.returns
returns c = pair-so c.args.text.now
    c.args.at c.get8.ensures
    c.get8-2.ensures c.digit-high.ensures.0 c.digit-low.ensures.0
