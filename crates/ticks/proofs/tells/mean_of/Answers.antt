use mathlib.Core.Path.{sym}
use native.Mathlib.Omega.{arith}
use Rattle.model.proofs.LevelsLaws.{mean-up, mean-down}
use Rattle.ticks.proofs.tells.mean_of.Goals as goal

pub returns-then-sum-lt9223372036854775808 : goal.returns-then-sum-lt9223372036854775808
returns-then-sum-lt9223372036854775808 c = let a = c.args in sym (mean-up a.sum a.packets c.if-sum-lt9223372036854775808.true)

pub returns : goal.returns
returns c = let a = c.args in sym (mean-down a.sum a.packets c.if-sum-lt9223372036854775808.false (omega arith))
