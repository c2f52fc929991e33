use Rattle.std.proofs.Common.{◌≡◌, ◌+◌, ◌-◌, ◌*◌, ◌/◌, ◌%◌, eqb, refl, ◌∙◌, arith, length-set, ltb-true, eqb-true}
use Rattle.laws.specs.TestsLaws.{and_left, and_right}
use lib.ListN.{get_or-replicate}
use Rattle.octets.specs.NumbersLaws.{number-of}
use Rattle.model.specs.Layout.{most_monitors, pair_size, pairs_at}
use Rattle.packets.specs.DeviceLaws.{row-neither, flag-other, flag-own, flags-below}
use Rattle.packets.proofs.device.held_in.Goals as goal
use Rattle.packets.proofs.device.held_in.Goals.{then-key-dev, else-key-dev}

pub loop-i-init : goal.loop-i-init
loop-i-init c = let a = c.args in (
  omega arith,
  omega arith,
  refl,
  λ m p n w t b x h l. get_or-replicate most_monitors h 0 0 l
      ∙ flags-below m a.s.now n p a.dev w t h a.from l (omega arith) x,
)

pub bounds-r-h : goal.bounds-r-h
bounds-r-h c = ltb-true (c.key_at-key.result % 256) most_monitors
    (and_right (eqb (c.key_at-key.result / 256) _) _ c.if-key-dev.true)

pub loop-i-smaller : goal.loop-i-smaller
loop-i-smaller c = omega arith

pub loop-i-preserved : goal.loop-i-preserved
loop-i-preserved c = let a = c.args in
    let l = c.loop-i in
    let k = c.key_at-key.result in
    elim c.if-key-dev.branch [
      | then-key-dev w ↦ (
        omega arith,
        omega arith,
        rw w.r-is (simp length-set l.invariant.2),
        λ m p n v t b x.
            let e : k / 256 ≡ a.dev = eqb-true (k / 256) a.dev (and_left (eqb (k / 256) a.dev) _ w.if-key-dev.true) in
            rw w.r-is (flag-own m a.s.now n p a.dev v t l.i (omega arith)
            (number-of 8 a.s.now (pairs_at + pair_size * l.i) c.key_at-key.ensures (omega arith)) l.r
            e l.invariant.2 (l.invariant.3 m p n v t b x)),
      )
      | else-key-dev w ↦ (
        omega arith,
        omega arith,
        rw w.r-is l.invariant.2,
        λ m p n v t b x h y. rw w.r-is
            (flag-other m a.s.now n p a.dev v t l.i (omega arith)
            (number-of 8 a.s.now (pairs_at + pair_size * l.i) c.key_at-key.ensures (omega arith)) h _
            (row-neither m a.s.now n p a.dev v t l.i (omega arith)
            (number-of 8 a.s.now (pairs_at + pair_size * l.i) c.key_at-key.ensures (omega arith))
            w.if-key-dev.false) y (l.invariant.3 m p n v t b x h y)),
      )
    ]

pub returns : goal.returns
returns c = let a = c.args in
    let l = c.loop-i in
    let e : l.i ≡ a.to = omega (arith, l.invariant.1) in
    (l.invariant.2, rw e at l.invariant.3)
