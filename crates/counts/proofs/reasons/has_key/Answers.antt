use Rattle.std.proofs.Common.{◌+◌, ◌*◌, ◌∙◌, arith}
use Rattle.octets.specs.NumbersLaws.{number-of}
use Rattle.model.specs.Layout.{pair_size, pairs_at}
use Rattle.counts.specs.GivenLaws.{key-tells}
use Rattle.counts.proofs.reasons.has_key.Goals as goal

pub returns : goal.returns
returns c =
    let a = c.args in
    λ m p h w x. key-tells m a.s.now a.i p h a.key c.key_at.result w x
    (number-of 8 a.s.now (pairs_at + pair_size * a.i) c.key_at.ensures (omega arith))
