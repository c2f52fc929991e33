use Rattle.std.proofs.Common.{◌≡◌, ℕ, ◌+◌, ◌-◌, ◌*◌, take, drop, ap, arith}
use Rattle.packets.specs.AlikeLaws.{other-event, other_length, same-packet}
use Rattle.model.specs.Layout.{data_at, pair_size, pairs_at}
use Rattle.packets.proofs.reasons.is_alike.Goals as goal

pub returns-then-s-at : goal.returns-then-s-at
returns-then-s-at c = let a = c.args in
    other-event a.s.now a.i a.payload.now c.if-s-at.true

pub returns-then-s-at-2 : goal.returns-then-s-at-2
returns-then-s-at-2 c = let a = c.args in
    other_length a.s.now a.i a.payload.now c.if-s-at-2.true

pub returns : goal.returns
returns c = let a = c.args in
    let n : ℕ = c.wide-n.result in
    let k : pairs_at + pair_size * a.i + data_at + n - (pairs_at + pair_size * a.i + data_at) ≡ n = omega arith in
    let j : 9 + n - 9 ≡ n = omega arith in
    same-packet a.s.now a.i a.payload.now c.if-s-at.false c.if-s-at-2.false
    c.wide-n.ensures.0 (ap (λ (z : ℕ). take z (drop (pairs_at + pair_size * a.i + data_at) a.s.now)) k)
    (ap (λ (z : ℕ). take z (drop 9 a.payload.now)) j) c.same.ensures
