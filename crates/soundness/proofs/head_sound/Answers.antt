use native.Mathlib.Omega.{arith}
use mathlib.Core.Path.{sym}
use lib.Seq.{length-take-le}
use Rattle.model.specs.Layout.{head_size}
use Rattle.soundness.specs.CodeLaws.{head-long, head-short}
use Rattle.soundness.proofs.head_sound.Goals as goal

pub returns-then-n-gt-PREFIX : goal.returns-then-n-gt-PREFIX
returns-then-n-gt-PREFIX c = head-long c.args.s.now c.requires (omega (arith, c.wide-n.ensures))

pub slice_bounds-zeros_from-end : goal.slice_bounds-zeros_from-end
slice_bounds-zeros_from-end c = sym (length-take-le head_size c.args.s.now (omega arith))

pub zeros_from-behind-requires : goal.zeros_from-behind-requires
zeros_from-behind-requires c = let n = length-take-le head_size c.args.s.now (omega arith) in
    omega arith

pub returns : goal.returns
returns c = head-short c.args.s.now c.requires c.wide-n.result c.wide-n.ensures.0 (omega arith)
    c.zeros_from-behind.ensures c.get16-opcode.ensures
