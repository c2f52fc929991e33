use native.Mathlib.Omega.{arith}
use Rattle.model.specs.Quoted.{codes}
use Rattle.texts.specs.Text.{told}
use Rattle.texts.specs.WordsLaws.{level-below, level-above}
use Rattle.texts.proofs.Text.level.Goals as goal

pub returns-then-x-lt-ZERO : goal.returns-then-x-lt-ZERO
unfolding codes
returns-then-x-lt-ZERO c = level-below (told c.args.self) c.args.x (omega arith)
    (rw c.from.ensures at c.said.ensures)

pub returns : goal.returns
unfolding codes
returns c = level-above (told c.args.self) c.args.x
    (omega arith) (rw c.from-2.ensures at c.said-2.ensures)
