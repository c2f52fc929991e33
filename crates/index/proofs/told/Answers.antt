use native.Mathlib.Omega.{arith}
use Rattle.index.specs.AskedLaws.{mask-nobody, mask-watched}
use Rattle.index.proofs.told.Goals as goal

pub returns-then-mask-eq0 : goal.returns-then-mask-eq0
returns-then-mask-eq0 c = mask-nobody c.args.mask c.if-mask-eq0.true

pub returns : goal.returns
returns c = mask-watched c.args.mask (omega arith) c.if-mask-eq0.false
