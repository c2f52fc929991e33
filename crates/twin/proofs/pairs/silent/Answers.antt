use Rattle.std.proofs.Common.{◌-◌, arith}
use Rattle.twin.specs.SilentLaws.{back-good, back-tick, back-idle, back_end}
use Rattle.twin.proofs.pairs.silent.Goals as goal

pub loop-i-init : goal.loop-i-init
loop-i-init c = let o = c.requires.order in (o, omega arith, omega arith, λ h. omega arith)

pub is_good-requires : goal.is_good-requires
is_good-requires c = (
  c.requires.start,
  c.requires.formed (c.loop-i.i - 1)
      (let m = c.loop-i.invariant.1 in let n = c.loop-i-test.true in omega (arith, m, n)),
)

pub returns-then-is_good : goal.returns-then-is_good
returns-then-is_good c = λ h. let z =
    back-good c.args.t.now
    c.args.a c.args.k h
    c.loop-i.i c.loop-i-test.true
    (c.requires.formed (c.loop-i.i - 1)
    (let m = c.loop-i.invariant.1 in let n = c.loop-i-test.true in omega
    (arith, m, n))) c.is_good.ensures c.if-is_good.true in let v = c.loop-i.invariant.3
    h in omega (arith, z, v)

pub is_tick-requires : goal.is_tick-requires
is_tick-requires c = (c.requires.formed (c.loop-i.i - 1)
    (let m = c.loop-i.invariant.1 in let n = c.loop-i-test.true in omega
    (arith, m, n))).stands

pub overflow_add-c : goal.overflow_add-c
overflow_add-c c = let f = c.requires.few in
    let m = c.loop-i.invariant.2 in
    omega (arith, f, m)

pub loop-i-preserved-then-is_tick : goal.loop-i-preserved-then-is_tick
loop-i-preserved-then-is_tick c = let n = c.loop-i-test.true in
    let m = c.loop-i.invariant in (
      omega (arith, n, m.0),
      omega (arith, n, m.1),
      omega (arith, n, m.2),
      λ h. let z = back-tick
          c.args.t.now c.args.a c.args.k h
          c.loop-i.i c.loop-i-test.true (c.requires.formed (c.loop-i.i - 1)
          (let m = c.loop-i.invariant.1 in let n = c.loop-i-test.true in omega (arith, m, n)))
          c.is_good.ensures
          c.if-is_good.false c.is_tick.ensures c.if-is_tick.true in let v = m.3 h in omega
          (arith, z, v),
    )

pub loop-i-preserved : goal.loop-i-preserved
loop-i-preserved c = let n = c.loop-i-test.true in
    let m = c.loop-i.invariant in (
      omega (arith, n, m.0),
      omega (arith, n, m.1),
      omega (arith, n, m.2),
      λ h. let z = back-idle
          c.args.t.now c.args.a c.args.k h
          c.loop-i.i c.loop-i-test.true (c.requires.formed (c.loop-i.i - 1)
          (let m = c.loop-i.invariant.1 in let n = c.loop-i-test.true in omega (arith, m, n)))
          c.is_good.ensures
          c.if-is_good.false c.is_tick.ensures c.if-is_tick.false in let v = m.3 h in omega
          (arith, z, v),
    )

pub returns : goal.returns
returns c = λ h. let z =
    back_end c.args.t.now c.args.a
    c.args.k h c.loop-i.i
    (omega (arith, c.loop-i-test.false)) in let v = c.loop-i.invariant.3 h in omega (arith, z, v)
