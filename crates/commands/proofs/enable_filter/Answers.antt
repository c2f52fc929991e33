use Rattle.commands.specs.RepliesLaws.{replied-within}
use native.Mathlib.Omega.{arith}
use Rattle.commands.specs.RepliesLaws.{answer-enable}
use Rattle.commands.specs.RanLaws.{enable-done, enable-failed}
use mathlib.Core.Path.{refl}
use borrow.Author.Rules.{rules}
use Rattle.statuses.specs.CodesLaws.{code-some}
use Rattle.commands.proofs.enable_filter.Goals as goal

pub reply_done-requires : goal.reply_done-requires
reply_done-requires c = (search rules, answer-enable)

pub returns-in-Ok : goal.returns-in-Ok
returns-in-Ok c = let a = c.args in (
  (λ m e q. enable-done m a.s.now a.params.now e q a.out.now
      c.get16-opcode.ensures c.requires.2 c.in-Ok.ensures
      refl c.get8.ensures refl c.reply_done.ensures),
  replied-within a.out.now (omega arith) c.reply_done.ensures,
)

pub returns-in-Err : goal.returns-in-Err
returns-in-Err c = let a = c.args in (
  (λ m e q. enable-failed m a.s.now a.params.now e q a.out.now
      c.get16-opcode.ensures c.requires.2 c.in-Err.ensures
      (code-some _) refl c.reply.ensures),
  replied-within a.out.now (omega arith) c.reply.ensures,
)
