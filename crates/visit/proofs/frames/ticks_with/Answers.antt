use Rattle.std.proofs.Common.{arith, rules}
use Rattle.visit.specs.FramesLaws.{ticks-more, ticks-most, ticks-same}
use Rattle.visit.proofs.frames.ticks_with.Goals as goal

pub returns-then-ticks-lt-LAST : goal.returns-then-ticks-lt-LAST
returns-then-ticks-lt-LAST c = let a = c.args in
    let k = c.is_kind in
    ticks-more a.frame.now _ k.ensures a.ticks c.if-is_kind.true (omega arith)

pub returns-else-ticks-lt-LAST : goal.returns-else-ticks-lt-LAST
returns-else-ticks-lt-LAST c = let a = c.args in
    let k = c.is_kind in
    ticks-most a.frame.now _ k.ensures a.ticks c.if-is_kind.true (omega arith) (search rules)

pub returns-else-is_kind : goal.returns-else-is_kind
returns-else-is_kind c = let a = c.args in
    ticks-same a.frame.now _ c.is_kind.ensures a.ticks c.if-is_kind.false
