use mathlib.Core.Bool.{false}
use mathlib.Core.Path.{sym, ◌∙◌}
use borrow.Author.Tests.{lt-ltb, le-ltb}
use Rattle.laws.specs.TestsLaws.{pick_true, pick-false}
use Rattle.commands.specs.Handles.{live_at}
use Rattle.model.specs.Layout.{most_monitors}
use Rattle.commands.proofs.live.Goals as goal

pub returns-then-h-lt-HANDLES : goal.returns-then-h-lt-HANDLES
unfolding live_at
returns-then-h-lt-HANDLES c = c.busy.ensures ∙ sym (pick_true _ false (lt-ltb c.args.h most_monitors
    c.if-h-lt-HANDLES.true))

pub returns-else-h-lt-HANDLES : goal.returns-else-h-lt-HANDLES
unfolding live_at
returns-else-h-lt-HANDLES c = le-ltb c.args.h most_monitors c.if-h-lt-HANDLES.false ∙ sym (pick-false _ false (le-ltb c.args.h most_monitors c.if-h-lt-HANDLES.false))
