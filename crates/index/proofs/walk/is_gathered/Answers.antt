use native.Mathlib.Omega.{arith}
use Prim.Native.Nat.{◌+◌, ◌-◌, ◌*◌}
use mathlib.Core.Path.{refl}
use Rattle.wholes.specs.Layout.{entry_size}
use Rattle.index.specs.ComparedLaws.{gathered-more, gathered-end}
use Rattle.index.proofs.walk.is_gathered.Goals as goal

pub loop-j-init : goal.loop-j-init
loop-j-init c = (omega arith, refl)

pub loop-j-smaller : goal.loop-j-smaller
loop-j-smaller c = omega arith

pub loop-j-preserved : goal.loop-j-preserved
loop-j-preserved c = let l = c.loop-j in (
  omega arith,
  gathered-more c.args.table.now c.args.masks.now c.args.k c.requires.1
      c.requires.2 l.all l.j l.invariant.1 c.requires.0 (omega arith)
      (entry_size * l.j + entry_size - entry_size * l.j) (omega arith) c.get16-mask.ensures,
)

pub returns : goal.returns
returns c = let l = c.loop-j in
    gathered-end c.args.table.now c.args.masks.now c.args.k c.requires.1 c.requires.2 l.all l.j
    l.invariant.1 (omega arith)
