use Rattle.twin.specs.WindowsLaws.{look-end, look-first, look-other, look-stopped, look-tick}
use Rattle.twin.specs.Table.{after}
use Rattle.std.proofs.Common.{◌≡◌, ℕ, ◌-◌, sym, ap, ◌∙◌, arith}
use Rattle.twin.proofs.pairs.behind_tick.Goals as goal

pub loop-i-init : goal.loop-i-init
loop-i-init c = let o = c.requires.order in (
  o,
  omega arith,
  look-first c.args.t.now c.args.k
      c.args.n c.args.last,
)

pub is_tick-requires : goal.is_tick-requires
is_tick-requires c = (c.requires.formed (c.loop-i.i - 1)
    (let m = c.loop-i.invariant.1 in let n = c.loop-i-test.true in omega (arith, m, n))).stands

pub overflow_add-result : goal.overflow_add-result
overflow_add-result c = let f = c.requires.few in
    let m = c.loop-i.invariant.1 in
    omega (arith, f, m)

pub returns-then-left-eq0 : goal.returns-then-left-eq0
returns-then-left-eq0 c = let n = c.loop-i-test.true in
    let m = c.loop-i.invariant in (
      omega (arith, n, m.0),
      omega (arith, n, m.1),
      look-stopped
          c.args.t.now c.args.k c.args.n c.loop-i.i
          c.loop-i.left c.args.last n (c.requires.formed (c.loop-i.i - 1)
          (omega (arith, m.1, n))) c.is_tick.ensures c.if-is_tick.true c.if-left-eq0.true
          m.2,
    )

pub overflow_sub-left : goal.overflow_sub-left
overflow_sub-left c = let n = c.if-left-eq0.false in omega (arith, n)

pub loop-i-preserved-then-is_tick : goal.loop-i-preserved-then-is_tick
loop-i-preserved-then-is_tick c = let n = c.loop-i-test.true in
    let m = c.loop-i.invariant in (
      omega (arith, n, m.0),
      omega (arith, n, m.1),
      m.2
          ∙ look-tick c.args.t.now c.args.k c.args.n c.loop-i.i
          c.loop-i.left n m.1 (c.requires.formed (c.loop-i.i - 1)
          (omega (arith, m.1, n))) c.is_tick.ensures c.if-is_tick.true c.if-left-eq0.false,
    )

pub loop-i-preserved : goal.loop-i-preserved
loop-i-preserved c = let n = c.loop-i-test.true in
    let m = c.loop-i.invariant in (
      omega (arith, n, m.0),
      omega (arith, n, m.1),
      m.2
          ∙ look-other c.args.t.now
          c.args.k c.args.n
          c.loop-i.i c.loop-i.left n m.1
          (c.requires.formed (c.loop-i.i - 1)
          (omega (arith, m.1, n))) c.is_tick.ensures c.if-is_tick.false,
    )

pub returns : goal.returns
returns c = let m = c.loop-i.invariant in
    let e : c.loop-i.i ≡ c.args.k = omega (arith, m.0, c.loop-i-test.false) in (
      omega arith,
      c.requires.order,
      ap (λ (j : ℕ). after c.args.t.now j (c.args.n - j)) (sym e)
          ∙ sym
          (m.2 ∙ look-end c.args.t.now c.args.k
          c.args.n c.loop-i.i c.loop-i.left m.0
          (omega (arith, c.loop-i-test.false))),
    )
