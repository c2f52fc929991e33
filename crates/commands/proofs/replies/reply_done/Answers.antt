use Rattle.commands.specs.Replies.{head_of}
use Rattle.commands.specs.RepliesLaws.{reply-two}
use Rattle.laws.specs.Put.{put}
use Prim.Native.Nat.{ℕ}
use native.Mathlib.Omega.{arith}
use mathlib.Core.Path.{◌≡◌, ap, ◌∙◌}
use lib.ListN.{length, length-set}
use Rattle.commands.proofs.replies.reply_done.Goals as goal

pub put_head-requires : goal.put_head-requires
put_head-requires c = (omega arith, omega (arith, c.answer_of.ensures ∙ c.requires.1))

pub bounds-out-6 : goal.bounds-out-6
bounds-out-6 c = let e : length c.put_head.new.out ≡ length c.args.out.now = c.out-1.given in
    simp length-set (omega arith)

pub returns : goal.returns
returns c = let a = c.args in
    let n = c.answer_of.ensures ∙ c.requires.1 in
    reply-two a.out.now a.opcode (omega arith) 0 a.sub
    (c.put_head.ensures ∙ ap (λ (k : ℕ). put a.out.now 0 (head_of a.opcode k)) n)
