use Rattle.twin.specs.Table.{after}
use Rattle.twin.specs.WindowsLaws.{ticks-more, ticks-none, ticks-same}
use Rattle.pasts.specs.Pair.{ticks_among}
use Rattle.std.proofs.Common.{◌≡◌, ℕ, ◌-◌, sym, ap, ◌∙◌, arith}
use Rattle.twin.proofs.pairs.ticks.Goals as goal
use Rattle.twin.proofs.pairs.ticks.Goals.{then-is_tick, else-is_tick}

pub loop-i-init : goal.loop-i-init
loop-i-init c = (omega arith, c.requires.order, omega arith, sym (ticks-none c.args.t.now c.args.k))

pub is_tick-requires : goal.is_tick-requires
is_tick-requires c = (c.requires.formed c.loop-i.i c.loop-i-test.true).stands

pub overflow_add-c : goal.overflow_add-c
overflow_add-c c = let f = c.requires.few in let l = c.loop-i-test.true in
    let m = c.loop-i.invariant.2 in
    omega (arith, f, l, m)

pub loop-i-preserved : goal.loop-i-preserved
loop-i-preserved c = let l = c.loop-i-test.true in
    let m = c.loop-i.invariant in
    let f = c.requires.formed c.loop-i.i l in
    elim c.if-is_tick.branch [
      | then-is_tick w ↦
          let z = ticks-more c.args.t.now c.args.k c.loop-i.i m.0 f c.is_tick.ensures w.if-is_tick.true in
          let e = w.c-is in
          (omega (arith, m.0), omega (arith, l), omega (arith, e, m.2), omega (arith, z, e, m.3))
      | else-is_tick w ↦
          let z = ticks-same c.args.t.now c.args.k c.loop-i.i m.0 f c.is_tick.ensures w.if-is_tick.false in
          let e = w.c-is in
          (omega (arith, m.0), omega (arith, l), omega (arith, e, m.2), omega (arith, z, e, m.3))
    ]

pub returns : goal.returns
returns c = let e : c.loop-i.i ≡ c.args.n = omega (arith, c.loop-i.invariant.1, c.loop-i-test.false) in
    c.loop-i.invariant.3 ∙ ap (λ (j : ℕ). ticks_among (after c.args.t.now c.args.k (j - c.args.k))) e
