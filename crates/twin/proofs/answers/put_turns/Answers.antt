use Rattle.twin.specs.TurningTurns.{turns-none, turns_more, turns-done}
use Rattle.twin.specs.PassedLaws.{turns-first}
use Rattle.commands.specs.Replies.{prefix_in}
use Rattle.std.proofs.Common.{◌-◌, refl, ◌∙◌, arith}
use Rattle.twin.proofs.answers.put_turns.Goals as goal

pub loop-h-init : goal.loop-h-init
loop-h-init c = (
  omega arith,
  turns-first _ _ _ c.requires.3,
  omega arith,
  refl,
  turns-none
      (prefix_in c.args.head.now) c.args.t.now
      c.args.i c.args.out.now,
)

pub take_turn-turned-requires : goal.take_turn-turned-requires
take_turn-turned-requires c = (
  c.requires.1,
  c.requires.2,
  c.loop-h-test.true,
  c.loop-h.invariant.1,
)

pub put_turn-at-requires : goal.put_turn-at-requires
put_turn-at-requires c = (
  c.requires.0,
  c.requires.2,
  c.loop-h-test.true,
  c.loop-h.invariant.1,
  c.take_turn-turned.ensures,
  omega (
    arith,
    c.loop-h.invariant.2,
    c.loop-h.invariant.3,
    c.requires.4,
    c.loop-h-test.true,
  ),
)

pub overflow_add-at : goal.overflow_add-at
overflow_add-at c = omega (
  arith,
  c.loop-h.invariant.2,
  c.put_turn-at.ensures.0,
  c.loop-h-test.true,
)

pub loop-h-preserved : goal.loop-h-preserved
loop-h-preserved c = (
  omega (arith, c.loop-h-test.true),
  c.take_turn-turned.ensures.turns,
  omega (
    arith,
    c.loop-h.invariant.2,
    c.put_turn-at.ensures.0,
  ),
  c.out-1.given
      ∙ c.loop-h.invariant.3,
  turns_more
      (prefix_in c.args.head.now) c.args.t.now c.args.i c.loop-h.h
      c.loop-h.next c.loop-h.invariant.1 (omega (
        arith,
        c.loop-h.invariant.2,
        c.requires.4,
        c.loop-h-test.true,
      )) c.loop-h.invariant.4 c.put_turn-at.ensures.1,
)

pub shape_of-out : goal.shape_of-out
shape_of-out c = c.loop-h.invariant.3

pub returns : goal.returns
returns c = turns-done (prefix_in c.args.head.now)
    c.args.t.now c.args.i
    c.loop-h.h (omega (arith, c.loop-h-test.false, c.loop-h.invariant.0)) c.loop-h.invariant.2
    c.loop-h.invariant.4
