use Rattle.twin.specs.MarksLaws.{pair-other, pair-asked, start-long, packet-long}
use Rattle.std.proofs.Common.{refl, arith}
use Rattle.twin.proofs.turns.is_pair.Goals as goal

pub returns-then-b-h : goal.returns-then-b-h
returns-then-b-h c = pair-other _ _ _ c.args.b refl c.if-b-h.true

pub overflow_sub-from : goal.overflow_sub-from
overflow_sub-from c = let s = c.requires.1.start.packet in omega (arith, s, c.from.ensures)

pub payload_at-d-requires : goal.payload_at-d-requires
payload_at-d-requires c = let s = c.requires.1.start.sends.stands in
    rw c.from.ensures s

pub slice_bounds-same-end : goal.slice_bounds-same-end
slice_bounds-same-end c = let n = start-long _ _ c.args.b _ c.requires.1.start c.from.ensures c.payload_at-d.ensures in
    omega (arith, n)

pub slice_bounds-same-end-2 : goal.slice_bounds-same-end-2
slice_bounds-same-end-2 c = let n = packet-long _ _ _ c.requires.0 c.payload_at-p.ensures in
    omega (arith, n)

pub returns : goal.returns
returns c = pair-asked _ _ _ c.args.b c.requires.0 c.requires.1.start refl
    c.if-b-h.false c.from.ensures c.payload_at-d.ensures
    c.payload_at-p.ensures c.same.ensures
