use mathlib.Core.Path.{refl}
use Rattle.words.specs.SaysLaws.{then}
use Rattle.model.specs.Quoted.{codes}
use Rattle.shown.specs.Line.{no_line}
use Rattle.shown.proofs.no_line.Goals as goal

pub returns : goal.returns
unfolding no_line codes
returns c = (then c.put-a.ensures c.why-b.ensures, refl)
