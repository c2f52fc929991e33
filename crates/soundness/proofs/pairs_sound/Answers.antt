use mathlib.Core.Bool.{not}
use Rattle.std.proofs.Common.{ap}
use native.Mathlib.Omega.{arith}
use mathlib.Core.Path.{sym}
use lib.Seq.{length-take-le}
use Rattle.model.specs.Layout.{count_at}
use Rattle.soundness.specs.CodePairsLaws.{count-high, count-free, count_held}
use Rattle.soundness.proofs.pairs_sound.Goals as goal

pub returns-then-c-gt-PAIRS : goal.returns-then-c-gt-PAIRS
returns-then-c-gt-PAIRS c = count-high c.args.s.now c.requires c.wide-c.result c.wide-c.ensures.0 c.if-c-gt-PAIRS.true

pub slice_bounds-zeros_from-end : goal.slice_bounds-zeros_from-end
slice_bounds-zeros_from-end c = sym (length-take-le count_at c.args.s.now (omega arith))

pub zeros_from-requires : goal.zeros_from-requires
zeros_from-requires c = let n = length-take-le count_at c.args.s.now (omega arith) in
    omega arith

pub returns-then-not-zeros_from : goal.returns-then-not-zeros_from
returns-then-not-zeros_from c = count-free c.args.s.now c.requires c.wide-c.result c.wide-c.ensures.0 (omega arith)
    c.zeros_from.ensures (ap not c.if-not-zeros_from.true)

pub returns : goal.returns
returns c = count_held c.args.s.now c.requires c.wide-c.result c.wide-c.ensures.0 (omega arith)
    c.zeros_from.ensures (ap not c.if-not-zeros_from.false) c.held_pairs_sound.ensures
