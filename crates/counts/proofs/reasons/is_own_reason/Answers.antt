use Prim.Native.Nat.{◌+◌, ◌*◌}
use mathlib.Core.Path.{◌∙◌}
use native.Mathlib.Omega.{arith}
use Rattle.packets.specs.AlikeLaws.{reason-read}
use Rattle.octets.specs.NumbersLaws.{number-of}
use Rattle.model.specs.Frames.{packet_of}
use Rattle.model.specs.Layout.{pair_size, pairs_at}
use Rattle.counts.specs.SearchLaws.{other_key, own_key}
use Rattle.counts.proofs.reasons.is_own_reason.Goals as goal

pub returns-then-key_at-key : goal.returns-then-key_at-key
returns-then-key_at-key c = let a = c.args in
    λ m h dev acts w g low is o. other_key m a.s.now a.i (packet_of a.payload.now) acts dev h a.key
    c.key_at.result a.a w g low is o
    (number-of 8 a.s.now (pairs_at + pair_size * a.i) c.key_at.ensures (omega arith)) c.if-key_at-key.true

pub returns : goal.returns
returns c = let a = c.args in
    λ m h dev acts w g low is o. own_key m a.s.now a.i (packet_of a.payload.now) acts dev h a.key
    c.key_at.result a.a w g low is o
    (number-of 8 a.s.now (pairs_at + pair_size * a.i) c.key_at.ensures (omega arith))
    c.if-key_at-key.false (c.is_reason.ensures
    ∙ reason-read m a.s.now a.i w a.a a.payload.now c.requires.0
    c.requires.1 c.requires.2)
