use mathlib.Core.Bool.{not}
use Rattle.std.proofs.Common.{ap}
use Rattle.soundness.specs.CodeLaws.{held-long}
use Rattle.soundness.specs.EarlyLaws.{held-misplaced, held-behind, held-added, held-formed}
use Rattle.model.specs.Layout.{extra_at}
use mathlib.Core.Path.{sym}
use lib.Seq.{length-take-le}
use native.Mathlib.Omega.{arith}
use Rattle.soundness.proofs.held_sound.Goals as goal

pub returns-then-n-gt-CONDITION : goal.returns-then-n-gt-CONDITION
returns-then-n-gt-CONDITION c = let a = c.args in
    held-long a.place a.r.now (omega (arith, c.wide-n.ensures))

pub returns-then-h-place : goal.returns-then-h-place
returns-then-h-place c = held-misplaced c.args.place c.args.r.now c.wide-n.result c.wide-h.result
    c.requires c.wide-h.ensures.0 c.wide-n.ensures.0 (omega arith) c.if-h-place.true

pub slice_bounds-zeros_from-end : goal.slice_bounds-zeros_from-end
slice_bounds-zeros_from-end c = sym (length-take-le extra_at c.args.r.now (omega arith))

pub zeros_from-requires : goal.zeros_from-requires
zeros_from-requires c = let n = length-take-le extra_at c.args.r.now (omega arith) in
    omega arith

pub returns-then-not-zeros_from : goal.returns-then-not-zeros_from
returns-then-not-zeros_from c = held-behind c.args.place c.args.r.now c.wide-n.result c.wide-h.result c.requires
    c.wide-h.ensures.0 c.wide-n.ensures.0 (omega arith) c.zeros_from.ensures
    (ap not c.if-not-zeros_from.true)

pub returns-then-not-added_sound : goal.returns-then-not-added_sound
returns-then-not-added_sound c = held-added c.args.place c.args.r.now c.wide-n.result c.wide-h.result c.requires
    c.wide-h.ensures.0 c.wide-n.ensures.0 (omega arith) c.added_sound.ensures
    (ap not c.if-not-added_sound.true)

pub returns : goal.returns
returns c = held-formed c.args.place c.args.r.now c.wide-n.result c.wide-h.result c.requires
    c.wide-h.ensures.0 c.wide-n.ensures.0 (omega arith) c.if-h-place.false
    c.zeros_from.ensures (ap not c.if-not-zeros_from.false) c.added_sound.ensures
    (ap not c.if-not-added_sound.false) c.formed.ensures
