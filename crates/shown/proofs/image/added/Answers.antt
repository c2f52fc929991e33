use mathlib.Core.Path.{sym, ◌∙◌}
use Rattle.words.specs.SaysLaws.{nothing, taken, left}
use borrow.Author.Tests.{eq-eqb, ne_eqb}
use Rattle.octets.specs.Numbers.{number_at}
use Rattle.shown.specs.Image.{added_text}
use Rattle.shown.proofs.image.added.Goals as goal

pub returns-then-get8-eq-MONITOR_2 : goal.returns-then-get8-eq-MONITOR_2
unfolding added_text
returns-then-get8-eq-MONITOR_2 c = taken _ _ (eq-eqb (number_at 1 c.args.s.now 0) 165
    (sym c.get8-2.ensures ∙ c.if-get8-eq-MONITOR_2.true)) (rw (
      c.part.ensures,
      c.wide-n.ensures.0,
      c.get8.ensures,
    ) at c.peer.ensures)

pub returns : goal.returns
unfolding added_text
returns c = left _ _
    (ne_eqb (number_at 1 c.args.s.now 0) 165
    (λ e. c.if-get8-eq-MONITOR_2.false (c.get8-2.ensures ∙ e))) (nothing _ _)
