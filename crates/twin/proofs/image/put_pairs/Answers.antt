use Rattle.twin.specs.PairRowsLaws.{looks-of, rowed-all, rowed-more, rowed-none}
use Rattle.twin.specs.Seen.{begun_at}
use Rattle.std.proofs.Common.{arith, refl, rules}
use Rattle.twin.proofs.image.put_pairs.Goals as goal

pub loop-j-init : goal.loop-j-init
loop-j-init c = rowed-none c.args.t.now c.args.n
    c.args.seen c.args.b.now

pub bounds-seen-j : goal.bounds-seen-j
bounds-seen-j c = let f = c.requires.2.few in
    let l = c.loop-j-test.true in
    omega (arith, f, l)

pub pair_row-row-requires : goal.pair_row-row-requires
unfolding begun_at
pair_row-row-requires c = looks-of c.args.t.now c.args.n c.args.seen c.loop-j.j c.requires.1
    c.requires.2 c.requires.3 c.loop-j-test.true c.from.ensures c.from-in-loop-j.ensures

pub overflow_mul-j : goal.overflow_mul-j
overflow_mul-j c = let f = c.requires.2.few in
    let l = c.loop-j-test.true in
    omega (arith, f, l)

pub overflow_add-j : goal.overflow_add-j
overflow_add-j c = let f = c.requires.2.few in
    let l = c.loop-j-test.true in
    omega (arith, f, l)

pub loop-j-preserved : goal.loop-j-preserved
unfolding begun_at
loop-j-preserved c = rowed-more c.args.t.now c.args.n c.args.seen c.args.b.now c.loop-j.j
    (begun_at c.args.seen c.loop-j.j).handle c.from.result c.from-in-loop-j.result
    c.loop-j.b c.pair_row-row.result c.requires.0 c.requires.2 c.loop-j-test.true
    c.loop-j.invariant refl c.from.ensures
    c.from-in-loop-j.ensures c.pair_row-row.ensures (search rules)
    c.copy.ensures

pub shape_of-b : goal.shape_of-b
shape_of-b c = c.loop-j.invariant.long

pub returns : goal.returns
returns c = rowed-all c.args.t.now
    c.args.n c.args.seen
    c.args.b.now c.loop-j.j
    c.loop-j.b c.requires.2
    (let l = c.loop-j-test.false in omega (arith, l)) c.loop-j.invariant
