use Rattle.texts.specs.Text.{told}
use Rattle.texts.specs.WordsLaws.{address-so}
use Rattle.texts.proofs.Text.address.Goals as goal

pub returns : goal.returns
returns c = address-so (told c.args.self) c.args.device _ c.octet.ensures
    c.pair.ensures c.colon_pair.ensures c.colon_pair-2.ensures
    c.colon_pair-3.ensures c.colon_pair-4.ensures c.colon_pair-5.ensures
