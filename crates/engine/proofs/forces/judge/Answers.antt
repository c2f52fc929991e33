use native.Mathlib.Omega.{arith}
use Prim.Native.Nat.{◌+◌}
use mathlib.Core.Path.{sym, ap}
use lib.Seq.{length-take-le}
use Rattle.sessions.specs.Machine.{octets}
use Rattle.model.specs.Layout.{block_size}
use Rattle.wholes.specs.Whole.{held_whole}
use Rattle.engine.specs.LooseLaws.{loose-stands, head-core, called-in}
use Rattle.engine.proofs.forces.judge.Goals as goal

pub slice_bounds-judge-end-2 : goal.slice_bounds-judge-end-2
slice_bounds-judge-end-2 c = let k = c.turn_to.auto.s in
    sym (length-take-le block_size c.turn_to.new.s (omega arith))

pub judge-r-requires : goal.judge-r-requires
unfolding held_whole
judge-r-requires c = (
  head-core c.args.s.now c.requires.1 c.requires.0
      c.starts-begins.result (c.get32.result + 1) (ap (λ k. k + 1)
      (loose-stands c.args.s.now c.requires.1 c.requires.0 c.get32.ensures))
      c.turn_to.new.s c.turn_to.ensures,
  omega
      arith,
)

pub returns : goal.returns
unfolding held_whole
returns c = let j = c.judge-r in
    let n = c.get32 in
    called-in c.args.s.now c.requires.1 c.requires.0 octets c.args.frame.now c.args.out.now
    c.starts-begins.result (n.result + 1)
    (ap (λ k. k + 1) (loose-stands c.args.s.now c.requires.1 c.requires.0 n.ensures))
    c.starts-begins.ensures c.turn_to.new.s j.new.s j.new.out _ j.result
    c.get32-reached.result c.turn_to.ensures j.ensures c.get32-reached.ensures
    c.turn_to-2.ensures
