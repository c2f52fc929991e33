use mathlib.Core.Path.{sym, ap, ◌∙◌}
use lib.ListN.{length}
use borrow.Author.Tests.{eq-eqb, ne_eqb}
use Rattle.model.specs.Quoted.{codes}
use Rattle.words.specs.SaysLaws.{same, then, taken, left, nothing}
use Rattle.words.specs.Uuids.{bracketed}
use Rattle.words.proofs.uuids.in_brackets.Goals as goal

pub returns-then-known-eq0 : goal.returns-then-known-eq0
unfolding bracketed codes
returns-then-known-eq0 c = taken _ _ (eq-eqb _ _ (ap length (sym c.find-known.ensures) ∙ c.if-known-eq0.true)) (nothing _ _)

pub returns : goal.returns
unfolding bracketed codes
returns c = left _ _ (ne_eqb _ _ (λ e. c.if-known-eq0.false (ap length c.find-known.ensures ∙ e)))
    (then c.put-a.ensures
    (then (same c.find-known.ensures c.put-b.ensures) c.put.ensures))
