use native.Mathlib.Omega.{arith}
use Rattle.aes.specs.MixedLaws.{high_le, low_fits, top-fits, doubled}
use Rattle.aes.proofs.double_word.Goals as goal

pub overflow_sub-result : goal.overflow_sub-result
overflow_sub-result c = omega (arith, high_le c.args.w)

pub overflow_mul-result : goal.overflow_mul-result
overflow_mul-result c = omega (arith, low_fits c.args.w (omega arith))

pub overflow_mul-result-2 : goal.overflow_mul-result-2
overflow_mul-result-2 c = omega (arith, top-fits c.args.w (omega arith))

pub returns : goal.returns
returns c = doubled c.args.w (omega arith)
