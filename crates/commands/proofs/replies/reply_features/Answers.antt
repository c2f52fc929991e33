use Rattle.commands.specs.Replies.{prefix_count, head_of}
use Rattle.commands.specs.RepliesLaws.{answer-features, reply-features}
use Rattle.model.specs.Commands.{features}
use Rattle.laws.specs.Put.{put}
use native.Mathlib.Omega.{arith}
use Prim.Native.Nat.{ℕ, ◌+◌}
use mathlib.Core.Path.{◌≡◌, ◌∙◌, ap}
use lib.ListN.{length, length-set}
use Rattle.commands.proofs.replies.reply_features.Goals as goal

pub overflow_add-answer_of : goal.overflow_add-answer_of
overflow_add-answer_of c = omega (arith, answer-features c.answer_of.ensures)

pub put_head-requires : goal.put_head-requires
put_head-requires c = (omega arith, omega (arith, answer-features c.answer_of.ensures))

pub shape_of-out : goal.shape_of-out
shape_of-out c = let e : length c.copy-2.new.out ≡ length c.copy.new.out = simp length-set at
    c.out-3-1.given in
    e ∙ c.out-2-1.given ∙ c.out-1.given

pub returns : goal.returns
unfolding features prefix_count
returns c = let a = c.args in
    let p = c.at_most-k.ensures in
    reply-features a.out.now a.opcode a.s.now (omega arith) (omega arith) p.0 p.1
    (c.put_head.ensures
    ∙ ap (λ (n : ℕ). put a.out.now 0 (head_of a.opcode (n + c.at_most-k.result)))
    (answer-features c.answer_of.ensures)) c.copy.ensures
    c.copy-2.ensures
