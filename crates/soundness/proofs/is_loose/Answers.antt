use mathlib.Core.Bool.{not}
use Rattle.std.proofs.Common.{ap}
use Rattle.soundness.specs.CodePairsLaws.{whole_length, whole-head, whole-monitors, whole-pairs}
use Rattle.soundness.proofs.is_loose.Goals as goal

pub returns-then-s-ne-SIZE : goal.returns-then-s-ne-SIZE
returns-then-s-ne-SIZE c = whole_length c.args.s.now c.if-s-ne-SIZE.true

pub returns-then-not-head_sound : goal.returns-then-not-head_sound
returns-then-not-head_sound c = whole-head c.args.s.now c.if-s-ne-SIZE.false
    c.head_sound.ensures (ap not c.if-not-head_sound.true)

pub returns-then-not-monitors_sound : goal.returns-then-not-monitors_sound
returns-then-not-monitors_sound c = whole-monitors c.args.s.now c.if-s-ne-SIZE.false c.head_sound.ensures
    (ap not c.if-not-head_sound.false) c.monitors_sound.ensures (ap not c.if-not-monitors_sound.true)

pub returns : goal.returns
returns c = whole-pairs c.args.s.now c.if-s-ne-SIZE.false c.head_sound.ensures (ap not c.if-not-head_sound.false)
    c.monitors_sound.ensures (ap not c.if-not-monitors_sound.false) c.pairs_sound.ensures
