use native.Mathlib.Omega.{arith}
use Prim.Native.Nat.{◌-◌}
use Rattle.prefixes.specs.ForceLaws.{starts-not, rest_all, rest-hit, rest-miss, rest-none}
use Rattle.prefixes.proofs.starts.Goals as goal

pub returns-then-s-ne-SIZE : goal.returns-then-s-ne-SIZE
returns-then-s-ne-SIZE c = starts-not c.args.n c.args.s.now c.if-s-ne-SIZE.true

pub loop-i-init : goal.loop-i-init
loop-i-init c = rest_all c.args.n c.args.s.now c.if-s-ne-SIZE.false

pub number_at-requires : goal.number_at-requires
number_at-requires c = let k = c.count_of-count.ensures.1 in
    (c.if-s-ne-SIZE.false, omega arith)

pub returns-then-number_at-n : goal.returns-then-number_at-n
returns-then-number_at-n c = let l = c.loop-i in
    let k = c.count_of-count.ensures.0 in
    rest-hit c.args.n c.args.s.now l.i (omega arith) l.invariant c.number_at.ensures
    c.if-number_at-n.true

pub loop-i-smaller : goal.loop-i-smaller
loop-i-smaller c = omega arith

pub loop-i-preserved : goal.loop-i-preserved
loop-i-preserved c = let l = c.loop-i in
    let k = c.count_of-count.ensures.0 in
    rest-miss c.args.n c.args.s.now l.i (omega arith) l.invariant c.number_at.ensures
    c.if-number_at-n.false

pub returns : goal.returns
returns c = let l = c.loop-i in
    let k = c.count_of-count.ensures.0 in
    rest-none c.args.n c.args.s.now l.i (omega arith) l.invariant
