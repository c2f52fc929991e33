use Rattle.twin.specs.GatheredLaws.{gathered-more, gathered_none, window-tells}
use Rattle.std.proofs.Common.{◌-◌, arith}
use Rattle.twin.proofs.pairs.window_of.Goals as goal

pub window_from-i-requires : goal.window_from-i-requires
window_from-i-requires c = c.requires

pub loop-i-init : goal.loop-i-init
loop-i-init c = (
  omega arith,
  c.window_from-i.ensures.1,
  gathered_none c.args.t.now
      c.args.a c.args.k c.window_from-i.result,
)

pub gathered-w-requires : goal.gathered-w-requires
gathered-w-requires c = let l = c.loop-i-test.true in
    let f = c.requires.few in (
      c.requires.start,
      c.requires.formed
          c.loop-i.i l,
      c.loop-i.invariant.2.few,
      omega (arith, l, f),
    )

pub loop-i-preserved : goal.loop-i-preserved
loop-i-preserved c = let l = c.loop-i-test.true in
    let m = c.loop-i.invariant in (
      omega (arith, m.0),
      omega (arith, l),
      gathered-more
          c.args.t.now
          c.args.a
          c.args.k c.window_from-i.result
          c.loop-i.i _ _ _ _ _ _ m.0
          (c.requires.formed c.loop-i.i l) m.2
          c.gathered-w.ensures,
    )

pub returns : goal.returns
returns c = let m = c.loop-i.invariant in
    window-tells c.args.t.now c.args.a
    c.args.k c.window_from-i.result
    c.args.n c.loop-i.i _ _ _ (omega (arith, m.1, c.loop-i-test.false))
    c.window_from-i.ensures.2 m.2
