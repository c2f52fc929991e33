use Rattle.twin.specs.HearsLaws.{start-part}
use Rattle.twin.specs.PairRowsLaws.{row_written}
use Rattle.std.proofs.Common.{arith}
use Rattle.twin.proofs.image.pair_row.Goals as goal

pub slice_bounds-copy-end-2 : goal.slice_bounds-copy-end-2
slice_bounds-copy-end-2 c = let k = start-part c.args.t.now c.args.a
    c.args.k 0 c.payload_at-p.result.now c.requires.start
    c.payload_at-p.ensures in
    omega (arith, k)

pub returns : goal.returns
returns c = let k = start-part c.args.t.now c.args.a c.args.k 0
    c.payload_at-p.result.now c.requires.start c.payload_at-p.ensures in
    row_written c.args.t.now c.args.n c.args.h c.args.a c.args.k
    c.no_event.result c.last_of.result c.requires.start
    c.payload_at-p.ensures (omega (arith, k)) c.copy.ensures
    (c.put_numbers.ensures c.args.h) c.no_event.ensures
    (c.last_of.ensures.1 c.args.h) c.put_latest.ensures
