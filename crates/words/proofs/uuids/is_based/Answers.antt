use Rattle.words.specs.Uuids.{base, is_based}
use Rattle.words.proofs.uuids.is_based.Goals as goal

pub returns : goal.returns
unfolding is_based base
returns c = rw (c.get16.ensures, c.same-same.ensures, c.part.ensures)
