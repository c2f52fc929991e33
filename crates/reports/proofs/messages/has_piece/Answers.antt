use mathlib.Core.Path.{sym, ap, ◌∙◌}
use Rattle.laws.specs.TestsLaws.{and-not-left}
use mathlib.Core.Bool.{◌&&◌, not}
use Rattle.reports.proofs.messages.has_piece.Goals as goal

pub returns-then-ended : goal.returns-then-ended
returns-then-ended c = sym (ap (λ b. b && not (lib.Dec.eqb c.args.size 0))
    (sym c.ended.ensures ∙ c.if-ended.true))

pub returns : goal.returns
returns c = sym (and-not-left _ _ (sym c.ended.ensures ∙ c.if-ended.false))
