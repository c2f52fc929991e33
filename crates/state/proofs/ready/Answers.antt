use Rattle.state.specs.PositionLaws.{ready-block, ready-room, ready-last}
use Rattle.std.proofs.Common.{arith}
use Rattle.state.proofs.ready.Goals as goal

pub returns-then-block-ne-SIZE : goal.returns-then-block-ne-SIZE
returns-then-block-ne-SIZE c = let a = c.args in ready-block a.block.now a.out.now c.if-block-ne-SIZE.true

pub returns-then-out-lt-ANSWER : goal.returns-then-out-lt-ANSWER
returns-then-out-lt-ANSWER c = let a = c.args in
    ready-room a.block.now a.out.now c.if-out-lt-ANSWER.true

pub returns : goal.returns
returns c = let a = c.args in
    ready-last a.block.now a.out.now (omega arith) (omega arith) c.get32.ensures
