use Rattle.twin.specs.MarksLaws.{looks-at, level-asked}
use Rattle.twin.proofs.turns.level_at.Goals as goal

pub kept_rssi-requires : goal.kept_rssi-requires
kept_rssi-requires c = looks-at _ _ _ _ c.args.b c.from.ensures c.from-k.ensures c.requires

pub returns : goal.returns
returns c = level-asked _ _ _ _ c.args.b c.from.ensures c.from-k.ensures _ _ c.kept_rssi.ensures c.level_of.ensures
