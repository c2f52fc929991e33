use mathlib.Core.Path.{◌∙◌}
use Rattle.snapshots.specs.AcceptedLaws.{restored-not, restored-blank, restored-in}
use Rattle.snapshots.proofs.read_image.Goals as goal

pub returns-then-s-ne-SIZE : goal.returns-then-s-ne-SIZE
returns-then-s-ne-SIZE c = restored-not c.args.text.now c.args.s.now c.if-s-ne-SIZE.true

pub returns-then-not-image : goal.returns-then-not-image
returns-then-not-image c = let k = c.take_image-image.auto.s in
    let l = c.if-s-ne-SIZE.false in
    restored-blank c.args.text.now c.args.s.now l c.take_image-image.ensures
    (c.if-not-image.true) (k ∙ l)
    c.put_blank.ensures

pub returns-else-not-image : goal.returns-else-not-image
returns-else-not-image c = restored-in c.args.text.now c.args.s.now c.if-s-ne-SIZE.false c.take_image-image.ensures
    (c.if-not-image.false)
