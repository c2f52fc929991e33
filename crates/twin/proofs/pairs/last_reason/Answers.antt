use Rattle.twin.specs.ReasonsLaws.{reason-end, reason-first, reason-more}
use Rattle.std.proofs.Common.{◌-◌, arith}
use Rattle.twin.proofs.pairs.last_reason.Goals as goal

pub start_reason-r-requires : goal.start_reason-r-requires
start_reason-r-requires c = c.requires.start

pub loop-i-init : goal.loop-i-init
loop-i-init c = let o = c.requires.order in (
  omega arith,
  o,
  reason-first c.args.t.now c.args.a
      c.args.k _ c.requires.start c.start_reason-r.ensures,
)

pub reason_after-r-requires : goal.reason_after-r-requires
reason_after-r-requires c = let l = c.loop-i-test.true in
    let f = c.requires.few in (
      c.requires.start,
      c.requires.formed
          c.loop-i.i l,
      c.loop-i.invariant.2.number.sent,
      omega (arith, l, f),
    )

pub loop-i-preserved : goal.loop-i-preserved
loop-i-preserved c = let l = c.loop-i-test.true in
    let m = c.loop-i.invariant in (
      omega (arith, m.0),
      omega (arith, l),
      reason-more
          c.args.t.now
          c.args.a
          c.args.k c.loop-i.r _
          c.loop-i.i
          m.0 (c.requires.formed c.loop-i.i l) m.2
          c.reason_after-r.ensures,
    )

pub returns : goal.returns
returns c = let m = c.loop-i.invariant in
    reason-end c.args.t.now c.args.a
    c.args.k c.args.n c.loop-i.i
    c.loop-i.r m.1 (omega (arith, c.loop-i-test.false)) m.2
