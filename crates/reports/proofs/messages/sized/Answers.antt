use Rattle.turns.specs.Swap.{long_line}
use Rattle.reports.specs.MessagesLaws.{size-so, size-long}
use Rattle.texts.specs.Text.{told}
use Rattle.model.specs.Quoted.{codes}
use native.Mathlib.Omega.{arith}
use Rattle.reports.proofs.messages.sized.Goals as goal

pub returns-then-n-lt-LONG : goal.returns-then-n-lt-LONG
unfolding codes long_line
returns-then-n-lt-LONG c = let a = c.args in size-so (told a.t) a.n (omega arith) c.said.ensures

pub returns : goal.returns
unfolding codes long_line
returns c = let a = c.args in
    size-long (told a.t) a.n (omega arith) c.said-2.ensures
