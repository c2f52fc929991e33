use Rattle.statuses.specs.Codes.{code}
use Rattle.commands.specs.RepliesLaws.{reply-two}
use native.Mathlib.Omega.{arith}
use mathlib.Core.Path.{◌≡◌}
use lib.ListN.{length, length-set}
use Rattle.commands.proofs.replies.reply.Goals as goal

pub bounds-out-6 : goal.bounds-out-6
bounds-out-6 c = let e : length c.put_head.new.out ≡ length
    c.args.out.now = c.out-1.given in
    simp length-set (omega arith)

pub returns : goal.returns
returns c = let a = c.args in
    rw c.code-octet.ensures (reply-two a.out.now a.opcode (omega arith) (code a.status) a.sub c.put_head.ensures)
