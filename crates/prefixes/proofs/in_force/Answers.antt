use native.Mathlib.Omega.{arith}
use Prim.Native.Nat.{◌-◌}
use mathlib.Core.Path.{refl}
use Rattle.prefixes.specs.HeldLaws.{count_most}
use Rattle.prefixes.specs.ForceLaws.{left-all, left-found, left_less, left-none}
use Rattle.prefixes.proofs.in_force.Goals as goal

pub loop-k-init : goal.loop-k-init
loop-k-init c = left-all c.args.s.now c.args.n _ c.count_of-k.ensures.0

pub number_at-requires : goal.number_at-requires
number_at-requires c = let l = c.loop-k in
    let m = count_most c.args.s.now in
    let b = l.invariant.0 in
    (c.requires, omega arith)

pub returns-then-number_at-n : goal.returns-then-number_at-n
returns-then-number_at-n c = let l = c.loop-k in
    left-found c.args.s.now c.args.n l.k (l.k - 1) c.loop-k-test.true refl l.invariant
    c.number_at.ensures c.if-number_at-n.true

pub loop-k-smaller : goal.loop-k-smaller
loop-k-smaller c = omega arith

pub loop-k-preserved : goal.loop-k-preserved
loop-k-preserved c = let l = c.loop-k in
    left_less c.args.s.now c.args.n l.k (l.k - 1) c.loop-k-test.true refl l.invariant
    c.number_at.ensures c.if-number_at-n.false

pub returns : goal.returns
returns c = let l = c.loop-k in
    left-none c.args.s.now c.args.n l.k c.loop-k-test.false l.invariant
