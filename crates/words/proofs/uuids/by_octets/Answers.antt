use mathlib.Core.Path.{ap}
use Rattle.words.specs.SaysLaws.{same}
use Rattle.words.specs.Uuids.{bracketed}
use Rattle.words.proofs.uuids.by_octets.Goals as goal

pub returns : goal.returns
returns c = same (ap bracketed (c.names_of.ensures c.args.low)) c.in_brackets.ensures
