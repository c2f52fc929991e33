use Rattle.snapshots.specs.AcceptedLaws.{filled}
use Rattle.snapshots.proofs.fill_block.Goals as goal

pub returns : goal.returns
returns c = filled c.args.text.now c.args.s.now c.requires c.fill.ensures.0
    c.fill.ensures.1 c.store_lines.ensures c.renew.ensures
