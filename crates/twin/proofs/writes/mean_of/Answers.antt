use Rattle.model.proofs.LevelsLaws.{mean-up, mean-down}
use Rattle.std.proofs.Common.{sym, arith}
use Rattle.twin.proofs.writes.mean_of.Goals as goal

pub returns-then-sum-lt9223372036854775808 : goal.returns-then-sum-lt9223372036854775808
returns-then-sum-lt9223372036854775808 c = sym (mean-up c.args.sum c.args.packets c.if-sum-lt9223372036854775808.true)

pub returns : goal.returns
returns c = sym (mean-down c.args.sum c.args.packets c.if-sum-lt9223372036854775808.false (omega arith))
