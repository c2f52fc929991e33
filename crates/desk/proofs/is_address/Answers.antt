use Rattle.desk.specs.WrittenLaws.{address-so}
use Rattle.desk.proofs.is_address.Goals as goal

pub returns : goal.returns
returns c = address-so c.args.text.now c.is_pair.ensures c.is_colon.ensures
    c.is_pair-2.ensures c.is_colon-2.ensures c.is_pair-3.ensures
    c.is_colon-3.ensures c.is_pair-4.ensures c.is_colon-4.ensures
    c.is_pair-5.ensures c.is_colon-5.ensures c.is_pair-6.ensures
