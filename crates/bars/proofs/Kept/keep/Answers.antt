use native.Mathlib.Omega.{arith}
use Rattle.bars.specs.KeptLaws.{kept_in_lem, kept_out}
use Rattle.bars.proofs.Kept.keep.Goals as goal

pub returns-then-i : goal.returns-then-i
returns-then-i c = kept_in_lem c.args.self.now.rows c.args.i c.args.row (omega arith)

pub returns-else-i : goal.returns-else-i
returns-else-i c = kept_out c.args.self.now.rows c.args.i c.args.row (omega arith)
