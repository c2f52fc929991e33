use native.Mathlib.Omega.{arith}
use Rattle.commands.specs.CancelledLaws.{cancelled-block}
use Rattle.commands.proofs.cancel.Goals as goal

pub returns : goal.returns
returns c = λ m e q. cancelled-block m c.args.h c.args.s.now e q (omega arith) c.fill.ensures
    c.forget_pairs.ensures
