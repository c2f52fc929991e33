use mathlib.Core.Path.{ap, ◌∙◌}
use Rattle.index.specs.Asked.{watch_count, lowest_in}
use Rattle.bournejade.proofs.bournejade_watchers.Goals as goal

pub returns : goal.returns
returns c = record {
  value = c.watch_told.ensures.0 ∙ ap watch_count c.ask-w.ensures;
  lowest_after = c.watch_told.ensures.1 ∙ ap lowest_in c.ask-w.ensures;
}
