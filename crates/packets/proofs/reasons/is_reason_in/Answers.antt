use Rattle.packets.specs.AlikeLaws.{reason-off, reason-plain, reason-sifted}
use Rattle.packets.proofs.reasons.is_reason_in.Goals as goal

pub returns-then-a-ne1 : goal.returns-then-a-ne1
returns-then-a-ne1 c = let a = c.args in
    reason-off a.s.now a.i a.payload.now a.a c.if-a-ne1.true

pub returns-then-a-ne1-2 : goal.returns-then-a-ne1-2
returns-then-a-ne1-2 c = let a = c.args in
    reason-plain a.s.now a.i a.payload.now a.a c.if-a-ne1.false c.if-a-ne1-2.true

pub returns : goal.returns
returns c = let a = c.args in
    reason-sifted a.s.now a.i a.payload.now a.a c.if-a-ne1.false c.if-a-ne1-2.false
    c.is_alike.ensures
