use mathlib.Core.Path.{sym, ap, ◌∙◌}
use Rattle.marks.specs.Marks.{flag}
use Rattle.marks.proofs.KeyedLaws.{flag-some}
use borrow.Author.Tests.{eq-eqb, ne_eqb}
use Rattle.laws.specs.TestsLaws.{pick_true, pick-false}
use Rattle.marks.specs.Asked.{mark_if}
use Rattle.marks.proofs.mark_asked.Goals as goal

pub returns-then-not-ask : goal.returns-then-not-ask
unfolding mark_if flag
returns-then-not-ask c = sym (pick_true 0 _ (eq-eqb _ 0 (ap flag c.if-not-ask.true)))

pub met_at-m-requires : goal.met_at-m-requires
met_at-m-requires c = let p = c.requires in
    (p.0, p.1, p.2, p.3, p.4 c.if-not-ask.false)

pub returns : goal.returns
unfolding mark_if
returns c = c.mark_at.ensures ∙ sym (pick-false 0 _ (ne_eqb _ 0 (flag-some _ c.if-not-ask.false)))
