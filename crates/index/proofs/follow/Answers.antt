use Rattle.index.specs.RenewedLaws.{followed-other, followed-moved, followed-still}
use Rattle.index.proofs.follow.Goals as goal

pub returns-then-s-ne-SIZE : goal.returns-then-s-ne-SIZE
returns-then-s-ne-SIZE c = let a = c.args in
    followed-other a.before a.out.now a.n a.s.now c.if-s-ne-SIZE.true

pub returns-then-is_moved : goal.returns-then-is_moved
returns-then-is_moved c = let a = c.args in
    let i = c.is_moved in
    followed-moved a.before a.out.now a.n a.s.now i.ensures c.if-is_moved.true
    c.renew.ensures

pub returns-else-is_moved : goal.returns-else-is_moved
returns-else-is_moved c = let a = c.args in
    followed-still a.before a.out.now a.n a.s.now c.is_moved.ensures c.if-is_moved.false
