use Rattle.words.specs.Uuids.{behind_uuid}
use Rattle.words.proofs.uuids.name.Goals as goal

pub returns : goal.returns
unfolding behind_uuid
returns c = rw (
  c.get8-2.ensures,
  c.get8.ensures,
  c.short-two.ensures,
) at c.by_octets.ensures
