use Rattle.reports.specs.FitsLaws.{progress-some, progress-none}
use Rattle.model.specs.Quoted.{codes}
use native.Mathlib.Omega.{arith}
use Rattle.reports.proofs.progress.Goals as goal

pub returns-then-before-after : goal.returns-then-before-after
unfolding codes
returns-then-before-after c = let a = c.args in
    progress-some a.before a.after c.if-before-after.true c.blank.ensures
    c.said-t.ensures c.with.ensures

pub returns : goal.returns
unfolding codes
returns c = let a = c.args in
    progress-none a.before a.after (omega arith) c.blank-2.ensures
