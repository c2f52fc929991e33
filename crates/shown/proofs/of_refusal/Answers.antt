use mathlib.Core.Path.{refl}
use Rattle.words.specs.SaysLaws.{then}
use Rattle.model.specs.Quoted.{codes}
use Rattle.shown.specs.Line.{refused_text}
use Rattle.shown.proofs.of_refusal.Goals as goal

pub returns : goal.returns
unfolding refused_text codes
returns c = (
  then (then c.said-a.ensures c.put-b.ensures)
      c.refusal-c.ensures,
  refl,
)
