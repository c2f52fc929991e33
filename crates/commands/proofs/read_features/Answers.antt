use Rattle.commands.specs.RepliesLaws.{replied-within}
use native.Mathlib.Omega.{arith}
use Rattle.commands.specs.RanLaws.{read_done, read-failed}
use mathlib.Core.Path.{refl}
use Rattle.statuses.specs.CodesLaws.{code-some}
use Rattle.commands.proofs.read_features.Goals as goal

pub returns-in-Ok : goal.returns-in-Ok
returns-in-Ok c = let a = c.args in (
  (λ m e q. read_done m a.s.now a.params.now e q a.out.now
      c.get16-opcode.ensures c.requires.2 c.in-Ok.ensures
      refl refl c.reply_features.ensures),
  replied-within a.out.now (omega arith) c.reply_features.ensures,
)

pub returns-in-Err : goal.returns-in-Err
returns-in-Err c = let a = c.args in (
  (λ m e q. read-failed m a.s.now a.params.now e q a.out.now
      c.get16-opcode.ensures c.requires.2 c.in-Err.ensures
      (code-some _) refl c.reply.ensures),
  replied-within a.out.now (omega arith) c.reply.ensures,
)
