use Rattle.commands.specs.RepliesLaws.{head-put}
use native.Mathlib.Omega.{arith}
use mathlib.Core.Path.{◌≡◌}
use lib.ListN.{length, length-set}
use Rattle.commands.proofs.replies.put_head.Goals as goal

pub bounds-out-1 : goal.bounds-out-1
bounds-out-1 c = simp length-set (omega arith)

pub bounds-out-2 : goal.bounds-out-2
bounds-out-2 c = simp length-set (omega arith)

pub shape_of-out : goal.shape_of-out
shape_of-out c = let e : length c.put16.new.out ≡ length
    c.args.out.now = simp length-set at c.out-1.given in
    e

pub returns : goal.returns
returns c = let a = c.args in
    head-put a.out.now a.opcode a.n (omega arith) c.put16.ensures
