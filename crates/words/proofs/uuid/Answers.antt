use Rattle.words.specs.UuidsLaws.{with-name}
use Rattle.words.proofs.uuid.Goals as goal

pub returns : goal.returns
returns c = with-name c.args.words.now _ c.uuid_number-a.ensures c.name.ensures
