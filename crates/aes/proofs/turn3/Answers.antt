use Rattle.fips197.specs.Words.{word, rotated}
use Rattle.aes.proofs.turn3.Goals as goal

pub returns : goal.returns
unfolding rotated word
returns c = rw (c.turn1.ensures, c.turn2.ensures)
