use Prim.Native.Nat.{◌-◌}
use Rattle.snapshots.specs.AcceptedLaws.{saves-not, saves-sized, saves-short, saves-so}
use Rattle.snapshots.proofs.save_image.Goals as goal

pub returns-then-s-ne-SIZE : goal.returns-then-s-ne-SIZE
returns-then-s-ne-SIZE c = saves-not c.args.s.now c.args.out.now (saves-sized c.args.s.now _ c.if-s-ne-SIZE.true)

pub returns-then-out-lt-IMAGE : goal.returns-then-out-lt-IMAGE
returns-then-out-lt-IMAGE c = saves-not c.args.s.now c.args.out.now (saves-short c.args.s.now _ c.if-out-lt-IMAGE.true)

pub returns : goal.returns
returns c = saves-so c.args.s.now c.args.out.now c.if-s-ne-SIZE.false c.if-out-lt-IMAGE.false
    c.put_image.ensures.0 c.put_image.ensures.1
