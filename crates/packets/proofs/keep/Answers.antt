use Rattle.std.proofs.Common.{refl, arith}
use Rattle.packets.specs.MovesLaws.{keep_left, keep-done}
use Rattle.packets.proofs.keep.Goals as goal

pub returns-then-a-lt-MATCHED : goal.returns-then-a-lt-MATCHED
returns-then-a-lt-MATCHED c = let a = c.args in λ m w. keep_left m a.s.now a.i a.a a.rssi w c.if-a-lt-MATCHED.true

pub returns : goal.returns
returns c = let a = c.args in
    λ m w. keep-done m a.s.now a.i a.a a.rssi w (omega arith) c.if-a-lt-MATCHED.false refl
