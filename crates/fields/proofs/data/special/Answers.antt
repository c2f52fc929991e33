use mathlib.Core.Path.{sym, ◌∙◌}
use Rattle.words.specs.SaysLaws.{taken, left}
use Rattle.fields.specs.Data.{special_text}
use borrow.Author.Tests.{eq-eqb, ne_eqb}
use Rattle.fields.proofs.data.special.Goals as goal

pub returns-then-kind-eq-MANUFACTURER : goal.returns-then-kind-eq-MANUFACTURER
unfolding special_text
returns-then-kind-eq-MANUFACTURER c = taken _ _ (eq-eqb _ _ c.if-kind-eq-MANUFACTURER.true) c.company.ensures

pub returns-then-kind : goal.returns-then-kind
unfolding special_text
returns-then-kind c = left _ _ (ne_eqb _ _ c.if-kind-eq-MANUFACTURER.false)
    (taken _ _ c.if-kind.true
    (rw c.uuid_size-k.ensures at c.headed.ensures))

pub returns-then-k-eq0 : goal.returns-then-k-eq0
unfolding special_text
returns-then-k-eq0 c = left _ _ (ne_eqb _ _ c.if-kind-eq-MANUFACTURER.false)
    (left _ _ c.if-kind.false
    (taken _ _ (eq-eqb _ _
    (sym c.uuid_size-k.ensures ∙ c.if-k-eq0.true))
    c.plain.ensures))

pub returns : goal.returns
unfolding special_text
returns c = left _ _ (ne_eqb _ _ c.if-kind-eq-MANUFACTURER.false)
    (left _ _ c.if-kind.false
    (left _ _ (ne_eqb _ _
    (λ e. c.if-k-eq0.false (c.uuid_size-k.ensures ∙ e)))
    (rw c.uuid_size-k.ensures at c.uuids.ensures)))
