use Rattle.std.proofs.Common.{◌≡◌, length, arith, length-set}
use Rattle.commands.specs.RepliesLaws.{reply-three}
use Rattle.twin.proofs.replies.long.Goals as goal

pub bounds-out-6 : goal.bounds-out-6
bounds-out-6 c = let e : length c.put_complete.new.out ≡ length
    c.args.out.now = c.out-1.given in
    simp length-set (omega arith)

pub bounds-out-7 : goal.bounds-out-7
bounds-out-7 c = let e : length c.put_complete.new.out ≡ length
    c.args.out.now = c.out-1.given in
    simp length-set (omega arith)

pub returns : goal.returns
returns c = reply-three c.args.out.now
    c.args.opcode (omega arith)
    c.args.status c.args.sub
    c.args.handle c.put_complete.ensures
