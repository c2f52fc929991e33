use Prim.Native.Nat.{◌-◌}
use native.Mathlib.Omega.{arith}
use Rattle.index.specs.TableLaws.{place-start, place-hit, place-miss, place_end}
use Rattle.index.proofs.table.place.Goals as goal

pub loop-j-init : goal.loop-j-init
loop-j-init c = (omega arith, place-start c.args.table.now c.args.k c.args.dev c.requires.0 c.requires.1)

pub returns-then-device_at-dev : goal.returns-then-device_at-dev
returns-then-device_at-dev c = let l = c.loop-j in (
  omega arith,
  place-hit c.args.table.now c.args.k c.args.dev c.requires.0 c.requires.1 l.j
      (omega arith) l.invariant.1 c.device_at.ensures c.if-device_at-dev.true,
)

pub loop-j-smaller : goal.loop-j-smaller
loop-j-smaller c = omega arith

pub loop-j-preserved : goal.loop-j-preserved
loop-j-preserved c = let l = c.loop-j in (
  omega arith,
  place-miss c.args.table.now c.args.k c.args.dev c.requires.0 c.requires.1 l.j
      (omega arith) l.invariant.1 c.device_at.ensures c.if-device_at-dev.false,
)

pub returns : goal.returns
returns c = let l = c.loop-j in (
  omega arith,
  place_end c.args.table.now c.args.k c.args.dev c.requires.0
      c.requires.1 l.j l.invariant.0 (omega arith) l.invariant.1,
)
