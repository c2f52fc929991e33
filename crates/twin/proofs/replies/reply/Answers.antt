use Rattle.twin.specs.AnswersLaws.{command-next, params-some, reply-added, reply-read, reply-other}
use Rattle.model.specs.Commands.{sub_of}
use Rattle.std.proofs.Common.{sym, refl, ◌∙◌, arith}
use Rattle.twin.proofs.replies.reply.Goals as goal

pub params_of-params-requires : goal.params_of-params-requires
params_of-params-requires c = (omega arith, command-next c.args.t.now c.args.i c.requires.1 c.requires.2)

pub status_of-status-requires : goal.status_of-status-requires
status_of-status-requires c = (c.requires.3, params-some c.args.t.now c.args.i _ c.requires.1 c.requires.2 c.params_of-params.ensures)

pub bounds-params-0 : goal.bounds-params-0
bounds-params-0 c = omega (
  arith,
  params-some c.args.t.now c.args.i _ c.requires.1 c.requires.2 c.params_of-params.ensures,
)

pub returns-then-is_add : goal.returns-then-is_add
unfolding sub_of
returns-then-is_add c = reply-added c.args.head.now c.args.t.now c.args.i _ c.args.seen c.requires.0 c.requires.1
    c.requires.2 c.requires.3 c.params_of-params.ensures c.get16-opcode.ensures refl
    c.status_of-status.ensures (sym c.is_add.ensures ∙ c.if-is_add.true)
    c.handle_of.ensures c.long.ensures

pub returns-then-sub-status : goal.returns-then-sub-status
unfolding sub_of
returns-then-sub-status c = reply-read c.args.head.now c.args.t.now c.args.i _ c.args.seen c.requires.0 c.requires.1
    c.requires.2 c.requires.3 c.params_of-params.ensures c.get16-opcode.ensures refl
    c.status_of-status.ensures c.if-sub-status.true c.features.ensures

pub returns : goal.returns
unfolding sub_of
returns c = reply-other c.args.head.now c.args.t.now c.args.i _ c.args.seen c.requires.0 c.requires.1
    c.requires.2 c.requires.3 c.params_of-params.ensures c.get16-opcode.ensures refl
    c.status_of-status.ensures (sym c.is_add.ensures ∙ c.if-is_add.false) c.if-sub-status.false
    c.short.ensures
