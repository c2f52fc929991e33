use native.Mathlib.Omega.{arith}
use Rattle.additions.specs.AnswersTurns.{form-short, form-other, form-whole}
use Rattle.additions.proofs.is_addition.Goals as goal

pub returns-then-n-lt-PREFIX_AT : goal.returns-then-n-lt-PREFIX_AT
returns-then-n-lt-PREFIX_AT c = form-short _ (omega arith)

pub returns-then-row : goal.returns-then-row
returns-then-row c = form-other _ (λ z. c.if-row.true z)

pub returns : goal.returns
returns c = form-whole _ c.wide.result (omega arith) c.if-row.false c.wide.ensures.0
