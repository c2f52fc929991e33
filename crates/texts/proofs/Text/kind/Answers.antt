use native.Mathlib.Omega.{arith}
use Rattle.model.specs.Quoted.{codes}
use Rattle.texts.specs.Text.{told}
use Rattle.texts.specs.WordsLaws.{kind-public, kind-random}
use Rattle.texts.proofs.Text.kind.Goals as goal

pub returns-then-device-eq0 : goal.returns-then-device-eq0
unfolding codes
returns-then-device-eq0 c = kind-public (told c.args.self) c.args.device
    (omega arith) c.with.ensures

pub returns : goal.returns
unfolding codes
returns c = kind-random (told c.args.self) c.args.device
    c.if-device-eq0.false c.with-2.ensures
