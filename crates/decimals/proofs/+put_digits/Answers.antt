use Rattle.std.proofs.Common.{arith, ◌-◌, ◌/◌}
use Rattle.decimals.specs.WritingTurns.{digits_last, digits-one, digits_more, digits-most}
use Rattle.decimals.proofs.+put_digits.Goals as goal

pub returns-then-k-eq0 : goal.returns-then-k-eq0
returns-then-k-eq0 t c =
    let a = c.args in
    digits_last a.k a.n c.digit.result a.text.now a.text.now c.if-k-eq0.true c.digit.ensures (omega arith)

pub returns-then-n-le9 : goal.returns-then-n-le9
returns-then-n-le9 t c =
    let a = c.args in
    digits-one a.k a.n c.digit-then-n-le9.result a.text.now (λ z. c.if-k-eq0.false z) (omega arith)
    c.digit-then-n-le9.ensures (omega arith)

pub bounds-text-e : goal.bounds-text-e
bounds-text-e t c =
    let a = c.args in
    let r = c.put_digits-e.ensures in
    omega (arith, digits-most (a.k - 1) (a.n / 10))

pub overflow_add-result : goal.overflow_add-result
overflow_add-result t c =
    let a = c.args in
    let r = c.put_digits-e.ensures in
    omega (arith, digits-most (a.k - 1) (a.n / 10))

pub returns : goal.returns
returns t c =
    let a = c.args in
    digits_more a.k a.n c.digit-2.result c.put_digits-e.result a.text.now c.put_digits-e.new.text
    (λ z. c.if-k-eq0.false z) (omega arith) c.digit-2.ensures (omega arith) c.put_digits-e.ensures
