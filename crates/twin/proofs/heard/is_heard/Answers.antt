use Rattle.std.proofs.Common.{arith}
use Rattle.twin.specs.HearsLaws.{hears-other, long-part, start-part, hears-stranger, heard-framed, hears-match}
use Rattle.twin.proofs.heard.is_heard.Goals as goal

pub returns-then-not-is_packet : goal.returns-then-not-is_packet
returns-then-not-is_packet c = hears-other c.args.t.now c.args.a
    c.args.k c.args.i c.is_packet.ensures
    (c.if-not-is_packet.true)

pub slice_bounds-same-end : goal.slice_bounds-same-end
slice_bounds-same-end c = let k = long-part c.args.t.now
    c.args.a c.args.k
    c.args.i _ c.requires.1
    c.is_packet.ensures (c.if-not-is_packet.false)
    c.payload_at-p.ensures in
    omega (arith, k)

pub slice_bounds-same-end-2 : goal.slice_bounds-same-end-2
slice_bounds-same-end-2 c = let k = start-part c.args.t.now c.args.a c.args.k c.args.i _ c.requires.0
    c.payload_at-d.ensures in
    omega (arith, k)

pub returns-then-not-same : goal.returns-then-not-same
returns-then-not-same c = hears-stranger c.args.t.now c.args.a c.args.k c.args.i c.requires.1
    c.requires.0 _ _ c.is_packet.ensures (c.if-not-is_packet.false)
    c.payload_at-p.ensures c.payload_at-d.ensures c.same.ensures
    (c.if-not-same.true)

pub is_match-requires : goal.is_match-requires
is_match-requires c = (
  rw c.params_of.ensures
      c.requires.0.adds,
  rw
      c.payload_at-p.ensures (heard-framed c.args.t.now c.args.a c.args.k
      c.args.i c.requires.1 c.is_packet.ensures (c.if-not-is_packet.false)),
)

pub returns : goal.returns
returns c = hears-match c.args.t.now c.args.a c.args.k c.args.i c.requires.1
    c.requires.0 _ _ c.is_packet.ensures (c.if-not-is_packet.false)
    c.payload_at-p.ensures c.payload_at-d.ensures c.same.ensures
    (c.if-not-same.false) c.params_of.ensures c.is_match.ensures
