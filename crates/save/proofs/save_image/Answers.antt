use Rattle.save.specs.ImageLaws.{save-refused, save-done}
use Rattle.save.specs.StepsTurns.{saves-not-block, saves-short, saves-done}
use lib.ListN.{length}
use native.Mathlib.Omega.{arith}
use Rattle.save.proofs.save_image.Goals as goal

pub returns-then-s-ne-SIZE : goal.returns-then-s-ne-SIZE
returns-then-s-ne-SIZE c = let a = c.args in
    let t = save-refused a.s.now a.out.now (saves-not-block a.s.now (length a.out.now) (λ e. c.if-s-ne-SIZE.true e)) in
    record { text = t.0; of_sound = t.1 }

pub returns-then-out-lt-IMAGE : goal.returns-then-out-lt-IMAGE
returns-then-out-lt-IMAGE c = let a = c.args in
    let t = save-refused a.s.now a.out.now (saves-short a.s.now (length a.out.now) (omega arith)) in
    record { text = t.0; of_sound = t.1 }

pub returns : goal.returns
returns c = let a = c.args in
    let t = save-done a.s.now a.out.now (saves-done a.s.now (length a.out.now) (omega arith) (omega arith)) c.put_image.ensures in
    record { text = t.0; of_sound = t.1 }
