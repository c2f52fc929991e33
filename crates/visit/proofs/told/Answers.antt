use Rattle.std.proofs.Common.{arith}
use Rattle.visit.specs.BookLaws.{told-short, told-other, told-stop, told-start}
use Rattle.visit.proofs.told.Goals as goal

pub returns-then-n-lt-SHORTEST : goal.returns-then-n-lt-SHORTEST
returns-then-n-lt-SHORTEST c = told-short c.args.event.now (omega arith)

pub returns-then-get8-ne-EVENT : goal.returns-then-get8-ne-EVENT
returns-then-get8-ne-EVENT c = told-other c.args.event.now _ (omega arith)
    c.get8.ensures c.if-get8-ne-EVENT.true

pub returns-then-get8-eq0 : goal.returns-then-get8-eq0
returns-then-get8-eq0 c = told-stop c.args.event.now _ (omega arith) c.get8.ensures _ _ c.if-get8-ne-EVENT.false
    c.get64-key.ensures c.get8-2.ensures c.if-get8-eq0.true

pub returns : goal.returns
returns c = told-start c.args.event.now _ (omega arith) c.get8.ensures _ _ c.if-get8-ne-EVENT.false
    c.get64-key.ensures c.get8-2.ensures c.if-get8-eq0.false
