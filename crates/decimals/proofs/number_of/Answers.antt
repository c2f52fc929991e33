use Rattle.decimals.specs.ReadingLaws.{number-far, number_is}
use mathlib.Core.Path.{refl}
use native.Mathlib.Omega.{arith}
use Rattle.decimals.proofs.number_of.Goals as goal

pub returns-then-value-gt-LAST : goal.returns-then-value-gt-LAST
returns-then-value-gt-LAST c = number-far c.args.value (omega arith)

pub returns : goal.returns
returns c = number_is c.args.value _ (omega arith) refl
