use Rattle.prefixes.specs.Held.{edition_count}
use Rattle.prefixes.proofs.count_of.Goals as goal

pub returns : goal.returns
unfolding edition_count
returns c = (c.at_most.ensures.0, c.at_most.ensures.1)
