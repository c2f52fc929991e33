use Rattle.std.proofs.Common.{◌+◌, ◌-◌, ◌*◌, arith}
use Rattle.packets.specs.KeysLaws.{key-part}
use Rattle.model.specs.Layout.{pair_size, pairs_at}
use Rattle.packets.proofs.key_at.Goals as goal

pub returns : goal.returns
returns c = let a = c.args in
    key-part a.s.now (pairs_at + pair_size * a.i) (pairs_at + pair_size * a.i + 8 - (pairs_at + pair_size * a.i))
    (omega arith) (omega arith) c.get64.ensures
