use Rattle.restore.specs.SpreadLaws.{spread-made}
use Rattle.restore.specs.Lines.{stored_monitor}
use mathlib.Core.Path.{ap, ◌∙◌}
use Rattle.restore.proofs.store_second.Goals as goal

pub returns : goal.returns
returns c = c.store_monitor.ensures
    ∙ ap (stored_monitor _) (spread-made c.args.line.now _ c.requires.1 c.at_most-n.ensures.0
    c.at_most-n.ensures.1 c.copy.ensures c.copy-2.ensures)
