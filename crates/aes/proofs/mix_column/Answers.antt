use Rattle.aes.specs.MixedLaws.{mixed}
use Rattle.aes.proofs.mix_column.Goals as goal

pub returns : goal.returns
returns c = mixed c.args.w c.double_word-v.result c.sum.result
    c.turn1-u.result c.sum-2.result c.turn2.result
    c.sum-3.result c.turn3.result c.sum-4.result
    c.double_word-v.ensures c.sum.ensures c.turn1-u.ensures
    c.sum-2.ensures c.turn2.ensures c.sum-3.ensures
    c.turn3.ensures c.sum-4.ensures
