use native.Mathlib.Omega.{arith}
use Rattle.stays.specs.ClocksLaws.{digits_in, two-some, two_over, two_none}
use Rattle.stays.proofs.two_at.Goals as goal

pub overflow_sub-tens : goal.overflow_sub-tens
overflow_sub-tens c = let d = digits_in c.get8-a.result c.get8-b.result
    c.is_digit.ensures c.is_digit-2.ensures c.if-is_digit.true in
    omega (arith, d)

pub overflow_sub-ones : goal.overflow_sub-ones
overflow_sub-ones c = let d = digits_in c.get8-a.result c.get8-b.result
    c.is_digit.ensures c.is_digit-2.ensures c.if-is_digit.true in
    omega (arith, d)

pub returns-then-n-limit-clause-value : goal.returns-then-n-limit-clause-value
returns-then-n-limit-clause-value c = two-some c.args.word.now c.args.at _ _ c.get8-a.ensures c.get8-b.ensures
    c.is_digit.ensures c.is_digit-2.ensures c.args.limit c.if-is_digit.true (omega arith)

pub returns-else-n-limit-clause-value : goal.returns-else-n-limit-clause-value
returns-else-n-limit-clause-value c = two_over c.args.word.now c.args.at _ _ c.get8-a.ensures c.get8-b.ensures
    c.is_digit.ensures c.is_digit-2.ensures c.args.limit c.if-is_digit.true (omega arith)

pub returns-else-is_digit-clause-value : goal.returns-else-is_digit-clause-value
returns-else-is_digit-clause-value c = two_none c.args.word.now c.args.at _ _ c.get8-a.ensures c.get8-b.ensures
    c.is_digit.ensures c.is_digit-2.ensures c.args.limit c.if-is_digit.false
