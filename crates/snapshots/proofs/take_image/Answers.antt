use Prim.Native.Nat.{◌-◌}
use mathlib.Core.Path.{sym, ◌∙◌}
use Rattle.snapshots.specs.AcceptedLaws.{read-refused, image-long, read_done, read-unsound}
use Rattle.snapshots.proofs.take_image.Goals as goal

pub returns-then-text-gt-IMAGE : goal.returns-then-text-gt-IMAGE
returns-then-text-gt-IMAGE c = read-refused c.args.text.now (image-long c.args.text.now c.if-text-gt-IMAGE.true)

pub returns-then-is_sound : goal.returns-then-is_sound
returns-then-is_sound c = read_done c.args.text.now _ c.fill_block.ensures
    (sym c.is_sound.ensures ∙ c.if-is_sound.true) c.is_saved.ensures

pub returns : goal.returns
returns c = read-unsound c.args.text.now _ c.fill_block.ensures
    (sym c.is_sound.ensures ∙ c.if-is_sound.false)
