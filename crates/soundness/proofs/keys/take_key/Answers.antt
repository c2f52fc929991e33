use Rattle.soundness.specs.SeenLaws.{seen-new, marked-new, marked-old}
use Rattle.soundness.proofs.keys.take_key.Goals as goal

pub returns-then-not-seen-m : goal.returns-then-not-seen-m
returns-then-not-seen-m c = let g = c.get64.ensures in
    let m = c.mark_of-m.ensures.0 in (
      seen-new c.args.s.now c.args.seen.now c.args.i c.requires.0 c.requires.1 c.requires.2 c.requires.3 g m
          c.if-not-seen-m.true,
      marked-new c.args.s.now c.args.seen.now c.args.i c.requires.0 c.requires.1 c.requires.2
          c.requires.3 g m,
    )

pub returns : goal.returns
returns c = let g = c.get64.ensures in
    let m = c.mark_of-m.ensures.0 in (
      c.other_sound.ensures,
      marked-old c.args.s.now c.args.seen.now c.args.i c.requires.0 c.requires.1 c.requires.2
          c.requires.3 g m
          c.if-not-seen-m.false,
    )
