use Rattle.twin.specs.AnsweredLaws.{says-tick, says-packet}
use Rattle.twin.specs.PassedLaws.{frames-less, packet-comes}
use Rattle.std.proofs.Common.{sym, ◌∙◌, arith}
use Rattle.twin.proofs.answers.answer.Goals as goal

pub kind_at-kind-requires : goal.kind_at-kind-requires
kind_at-kind-requires c = (c.requires.1.formed c.args.i (omega arith)).stands

pub after_all-requires : goal.after_all-requires
after_all-requires c = frames-less c.args.t.now _
    c.args.i (omega arith)
    c.requires.1

pub reply-requires : goal.reply-requires
reply-requires c = (
  c.requires.0,
  c.requires.1.formed
      c.args.i (omega arith),
  sym
      c.kind_at-kind.ensures ∙ c.if-kind-eq-COMMAND.true,
  c.after_all.ensures,
  c.requires.2,
)

pub returns-then-kind-eq-TICK : goal.returns-then-kind-eq-TICK
returns-then-kind-eq-TICK c = says-tick c.args.head.now c.args.t.now c.args.i
    (c.requires.1.formed c.args.i (omega arith)) (sym c.kind_at-kind.ensures ∙ c.if-kind-eq-TICK.true)
    c.tick.ensures

pub packet-requires : goal.packet-requires
packet-requires c = (
  c.requires.0,
  c.requires.1,
  packet-comes
      c.args.t.now c.args.i c.requires.1
      (λ z. c.if-kind-eq-COMMAND.false (c.kind_at-kind.ensures ∙ z))
      (λ z. c.if-kind-eq-TICK.false (c.kind_at-kind.ensures ∙ z)),
  c.requires.2,
)

pub returns : goal.returns
returns c = says-packet c.args.head.now c.args.t.now c.args.i
    (packet-comes c.args.t.now c.args.i c.requires.1
    (λ z. c.if-kind-eq-COMMAND.false (c.kind_at-kind.ensures ∙ z))
    (λ z. c.if-kind-eq-TICK.false (c.kind_at-kind.ensures ∙ z))) c.packet.ensures
