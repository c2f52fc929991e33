use Rattle.octets.specs.NumbersLaws.{at-is, at-over}
use mathlib.Core.Path.{◌∙◌}
use native.Mathlib.Omega.{arith}
use Rattle.octets.proofs.at_most.Goals as goal

pub returns-then-k-n : goal.returns-then-k-n
returns-then-k-n c = let e = c.wide-k.ensures.0 in (e ∙ at-is _ _ (omega arith), omega arith, λ h. e)

pub returns : goal.returns
returns c = let e = c.wide-k.ensures.0 in (
  at-over _ _ (omega arith),
  omega arith,
  λ h. absurd
      (omega arith),
)
