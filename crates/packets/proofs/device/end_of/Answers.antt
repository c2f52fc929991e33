use Rattle.std.proofs.Common.{◌≡◌, ◌+◌, ◌-◌, ◌*◌, arith}
use Rattle.octets.specs.NumbersLaws.{number-of}
use Rattle.model.specs.Layout.{pair_size, pairs_at}
use Rattle.packets.specs.DeviceLaws.{none-less}
use Rattle.packets.proofs.device.end_of.Goals as goal

pub loop-i-init : goal.loop-i-init
loop-i-init c = (omega arith, omega arith, λ m p w t j b l. absurd (omega (arith, w.count)))

pub returns-then-key_at-dev : goal.returns-then-key_at-dev
returns-then-key_at-dev c = let l = c.loop-i in
    let e : l.i ≡ l.i - 1 + 1 = omega arith in
    (omega arith, omega arith, rw e at l.invariant.2)

pub loop-i-smaller : goal.loop-i-smaller
loop-i-smaller c = omega arith

pub loop-i-preserved : goal.loop-i-preserved
loop-i-preserved c = let a = c.args in
    let l = c.loop-i in
    let e : l.i ≡ l.i - 1 + 1 = omega arith in (
      omega arith,
      omega arith,
      λ m p w t. none-less m a.s.now a.n p a.dev w t (l.i - 1) (omega arith)
          (number-of 8 a.s.now (pairs_at + pair_size * (l.i - 1)) c.key_at.ensures (omega arith))
          (rw e at (l.invariant.2 m p w t)) c.if-key_at-dev.false,
    )

pub returns : goal.returns
returns c = let a = c.args in
    let l = c.loop-i in
    let e : l.i ≡ a.from = omega (arith, l.invariant.0) in
    (omega arith, omega arith, rw e at l.invariant.2)
