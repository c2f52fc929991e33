use Rattle.twin.specs.ReportedLaws.{started-live, tells_more, tells_none, tells-stop, tells-on}
use Rattle.twin.specs.Told.{tells_to}
use Rattle.twin.specs.PassedLaws.{turns-first}
use Rattle.std.proofs.Common.{◌≡◌, ◌-◌, false, sym, ap, ◌∙◌, arith}
use Rattle.twin.proofs.answers.starts_tell.Goals as goal

pub loop-h-init : goal.loop-h-init
loop-h-init c = (omega arith, turns-first _ _ _ c.requires.2, tells_none _ _)

pub take_turn-turned-requires : goal.take_turn-turned-requires
take_turn-turned-requires c = (
  c.requires.0,
  c.requires.1,
  c.loop-h-test.true,
  c.loop-h.invariant.1,
)

pub turn_tells-requires : goal.turn_tells-requires
turn_tells-requires c = (
  c.requires.1,
  c.loop-h-test.true,
  c.loop-h.invariant.1.shows,
  λ z. started-live c.args.t.now c.args.i
      c.loop-h.h c.loop-h.next c.loop-h.invariant.1
      c.loop-h-test.true (c.starts.ensures ∙ c.take_turn-turned.ensures.started) z,
)

pub returns-then-turn_tells : goal.returns-then-turn_tells
returns-then-turn_tells c = tells-stop c.args.t.now c.args.i c.loop-h.h 16 c.loop-h-test.true
    (tells_more c.args.t.now c.args.i c.loop-h.h c.loop-h.next c.loop-h.invariant.1
    c.loop-h-test.true (c.starts.ensures ∙ c.take_turn-turned.ensures.started) c.turn_tells.ensures)
    c.if-turn_tells.true

pub loop-h-preserved : goal.loop-h-preserved
loop-h-preserved c = (
  omega (arith, c.loop-h-test.true),
  c.take_turn-turned.ensures.turns,
  tells-on
      c.args.t.now c.args.i c.loop-h.h (tells_more c.args.t.now c.args.i
      c.loop-h.h c.loop-h.next c.loop-h.invariant.1 c.loop-h-test.true
      (c.starts.ensures ∙ c.take_turn-turned.ensures.started) c.turn_tells.ensures)
      c.loop-h.invariant.2 c.if-turn_tells.false,
)

pub returns : goal.returns
returns c = sym
    (ap (tells_to c.args.t.now c.args.i)
    (let e : 16 ≡ c.loop-h.h = omega (arith, c.loop-h-test.false, c.loop-h.invariant.0) in e)
    ∙ c.loop-h.invariant.2)
