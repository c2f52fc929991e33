use Rattle.std.proofs.Common.{◌≡◌, length, ◌∙◌, arith, length-set}
use Rattle.model.specs.Commands.{features}
use Rattle.commands.specs.Replies.{prefix_count}
use Rattle.commands.specs.RepliesLaws.{reply-features}
use Rattle.twin.proofs.replies.features.Goals as goal

pub shape_of-out : goal.shape_of-out
shape_of-out c = let e : length c.copy-2.new.out ≡ length c.copy.new.out = simp length-set at
    c.out-3-1.given in
    e ∙ c.out-2-1.given ∙ c.out-1.given

pub returns : goal.returns
unfolding features prefix_count
returns c = reply-features c.args.out.now c.args.opcode c.args.head.now (omega arith) (omega arith)
    c.at_most-k.ensures.0 c.at_most-k.ensures.1
    c.put_complete.ensures c.copy.ensures c.copy-2.ensures
