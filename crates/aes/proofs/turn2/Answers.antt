use Rattle.fips197.specs.Words.{word, rotated}
use Rattle.aes.proofs.turn2.Goals as goal

pub returns : goal.returns
unfolding rotated word
returns c = rw (c.turn1-2.ensures, c.turn1.ensures)
