use Rattle.commands.specs.RepliesLaws.{replied-within}
use Rattle.commands.specs.RepliesLaws.{answer-cancel}
use Rattle.commands.specs.OwedLaws.{cancel-handle}
use Rattle.commands.specs.RanLaws.{cancel-done, cancel-failed}
use mathlib.Core.Path.{refl}
use native.Mathlib.Omega.{arith}
use borrow.Author.Rules.{rules}
use Rattle.statuses.specs.CodesLaws.{code-some}
use Rattle.commands.proofs.cancel_monitor.Goals as goal

pub cancel-requires : goal.cancel-requires
cancel-requires c = let a = c.args in (
  omega arith,
  cancel-handle a.s.now a.params.now
      c.get8-h.result c.live-found.ensures
      c.in-Ok.ensures refl,
)

pub reply_done-requires : goal.reply_done-requires
reply_done-requires c = (search rules, answer-cancel)

pub returns-in-Ok : goal.returns-in-Ok
returns-in-Ok c = let a = c.args in (
  (λ m e q. cancel-done m a.s.now a.params.now e q a.out.now
      c.get16-opcode.ensures c.requires.2 c.get8-h.ensures c.live-found.ensures
      c.in-Ok.ensures refl (c.cancel.ensures m e q)
      c.reply_done.ensures),
  replied-within a.out.now (omega arith) c.reply_done.ensures,
)

pub returns-in-Err : goal.returns-in-Err
returns-in-Err c = let a = c.args in (
  (λ m e q. cancel-failed m a.s.now a.params.now e q a.out.now
      c.get16-opcode.ensures c.requires.2 c.get8-h.ensures c.live-found.ensures
      c.in-Err.ensures
      (code-some _) refl c.reply.ensures),
  replied-within a.out.now (omega arith) c.reply.ensures,
)
