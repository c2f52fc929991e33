use mathlib.Core.Path.{sym, ap, ◌∙◌}
use Rattle.words.specs.SaysLaws.{same, then, taken, left}
use Rattle.words.specs.Pieces.{name_or}
use lib.ListN.{length}
use borrow.Author.Tests.{eq-eqb, ne_eqb}
use Rattle.words.proofs.name.Goals as goal

pub returns-then-known-eq0 : goal.returns-then-known-eq0
unfolding name_or
returns-then-known-eq0 c = taken _ _
    (eq-eqb _ _ (ap length (sym c.find-known.ensures)
    ∙ c.if-known-eq0.true)) (then c.put-a.ensures c.pair.ensures)

pub returns : goal.returns
unfolding name_or
returns c = left _ _
    (ne_eqb _ _ (λ e. c.if-known-eq0.false (ap length c.find-known.ensures ∙ e)))
    (same c.find-known.ensures c.put.ensures)
