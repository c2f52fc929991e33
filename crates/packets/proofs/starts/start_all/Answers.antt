use Rattle.std.proofs.Common.{◌≡◌, ◌+◌, ◌-◌, refl, ◌∙◌, arith}
use Rattle.model.specs.Layout.{most_monitors}
use Rattle.model.specs.Frames.{packet_of}
use Rattle.steps.specs.SteppedLaws.{rest-further}
use Rattle.packets.specs.BeginsLaws.{turns-idle}
use Rattle.packets.specs.HandlesLaws.{turns-none, turns-turn}
use Rattle.packets.proofs.starts.start_all.Goals as goal

pub returns-then-not-is_start : goal.returns-then-not-is_start
returns-then-not-is_start c = let a = c.args in (
  omega arith,
  omega arith,
  refl,
  λ m w g. turns-idle m (packet_of a.payload.now) w.measured g.sender.sent a.acts.now a.under.now
      a.dev most_monitors a.s.now a.out.now a.n (omega arith) w.block w.count g
      (c.is_start.ensures (c.if-not-is_start.true)),
)

pub loop-h-init : goal.loop-h-init
loop-h-init c = let a = c.args in (
  omega arith,
  omega arith,
  omega arith,
  refl,
  refl,
  refl,
  λ m w g. turns-none m (packet_of a.payload.now) w.measured g.sender.sent a.s.now a.out.now
      a.n
      w.block w.count,
)

pub start_at-turn-requires : goal.start_at-turn-requires
start_at-turn-requires c = let p = c.requires in
    let l = c.loop-h in
    (l.invariant.3 ∙ p.0, l.invariant.1, omega arith, p.4, omega (arith, l.invariant.2, l.invariant.4, p.5), p.6)

pub overflow_add-wrote : goal.overflow_add-wrote
overflow_add-wrote c = omega (arith, c.start_at-turn.ensures.1)

pub loop-h-smaller : goal.loop-h-smaller
loop-h-smaller c = omega arith

pub loop-h-preserved : goal.loop-h-preserved
loop-h-preserved c = let a = c.args in
    let l = c.loop-h in
    let t = c.start_at-turn in (
      omega arith,
      t.ensures.0,
      omega (arith, t.ensures.1),
      t.auto.s ∙ l.invariant.3,
      t.auto.out ∙ l.invariant.4,
      t.ensures.2 ∙ rest-further l.out a.out.now l.wrote (l.wrote + t.result.wrote) (omega arith)
          l.invariant.5,
      λ m w g.
          turns-turn m (packet_of a.payload.now) w.measured g.sender.sent a.acts.now a.under.now
          a.dev l.h _ _ (omega arith) g refl refl (l.invariant.6 m w g)
          (λ x y z. t.ensures.3 x y g.sender z),
    )

pub shape_of-s : goal.shape_of-s
shape_of-s c = c.loop-h.invariant.3

pub shape_of-out : goal.shape_of-out
shape_of-out c = c.loop-h.invariant.4

pub returns : goal.returns
returns c = let l = c.loop-h in
    let e : l.h ≡ most_monitors = omega arith in
    (l.invariant.1, omega arith, l.invariant.5, λ m w g. rw e at (l.invariant.6 m w g))
