use Rattle.visit.specs.FramesLaws.{cancel-none, cancel-keys}
use Rattle.visit.proofs.frames.cancelled.Goals as goal

pub returns-then-command-sub : goal.returns-then-command-sub
returns-then-command-sub c = let k = c.keys_of.ensures in
    cancel-keys c.args.frame.now c.args.answer.now _ _ _ c.is_kind-command.ensures
    c.get8-sub.ensures c.get8-status.ensures _ c.if-command-sub.true k.0 k.1

pub returns : goal.returns
returns c = cancel-none c.args.frame.now c.args.answer.now _ _ _ c.is_kind-command.ensures
    c.get8-sub.ensures c.get8-status.ensures c.if-command-sub.false
