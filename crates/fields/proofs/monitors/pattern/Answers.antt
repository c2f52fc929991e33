use mathlib.Core.Path.{sym, ◌∙◌}
use Rattle.words.specs.SaysLaws.{then, taken, left}
use Rattle.fields.specs.Monitors.{pattern_text}
use Rattle.model.specs.Quoted.{codes}
use Rattle.fields.proofs.monitors.pattern.Goals as goal

pub returns-then-is_whole : goal.returns-then-is_whole
unfolding pattern_text codes
returns-then-is_whole c = taken _ _ (sym c.is_whole.ensures ∙ c.if-is_whole.true)
    (then (then (then c.put-a.ensures (rw c.get8.ensures at c.ad-b.ensures))
    c.octet-c.ensures) (rw c.behind.ensures at c.hex.ensures))

pub returns : goal.returns
unfolding pattern_text codes
returns c = left _ _
    (sym c.is_whole.ensures ∙ c.if-is_whole.false)
    c.hex-2.ensures
