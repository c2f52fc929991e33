use mathlib.Core.Path.{sym, ◌∙◌}
use borrow.Author.Tests.{eq-eqb, ne_eqb}
use Rattle.laws.specs.TestsLaws.{pick_true, pick-false}
use Rattle.words.specs.Uuids.{is_wide, is_based, short_of}
use Rattle.words.proofs.uuids.short.Goals as goal

pub returns-then-s-eq-SHORT : goal.returns-then-s-eq-SHORT
unfolding short_of
returns-then-s-eq-SHORT c = sym (pick_true _ _ (eq-eqb _ _ c.if-s-eq-SHORT.true))

pub returns-then-is_wide : goal.returns-then-is_wide
unfolding short_of
returns-then-is_wide c = c.part.ensures
    ∙ sym (pick-false _ _ (ne_eqb _ _ c.if-s-eq-SHORT.false)
    ∙ pick_true _ _ (sym c.is_wide.ensures ∙ c.if-is_wide.true))

pub returns-then-is_based : goal.returns-then-is_based
unfolding short_of
returns-then-is_based c = c.part-then-is_based.ensures
    ∙ sym (pick-false _ _ (ne_eqb _ _ c.if-s-eq-SHORT.false)
    ∙ pick-false _ _
    (sym c.is_wide.ensures ∙ c.if-is_wide.false)
    ∙ pick_true _ _ (sym c.is_based.ensures ∙ c.if-is_based.true))

pub returns : goal.returns
unfolding short_of
returns c = sym
    (pick-false _ _ (ne_eqb _ _ c.if-s-eq-SHORT.false)
    ∙ pick-false _ _
    (sym c.is_wide.ensures ∙ c.if-is_wide.false)
    ∙ pick-false _ _ (sym c.is_based.ensures ∙ c.if-is_based.false))
