use Rattle.commands.specs.Replies.{head_of}
use Rattle.commands.specs.RepliesLaws.{reply-three}
use Rattle.laws.specs.Put.{put}
use native.Mathlib.Omega.{arith}
use Prim.Native.Nat.{ℕ}
use mathlib.Core.Path.{◌≡◌, ap, ◌∙◌}
use lib.ListN.{length, length-set}
use Rattle.commands.proofs.replies.reply_handle.Goals as goal

pub bounds-out-6 : goal.bounds-out-6
bounds-out-6 c = let e : length c.put_head.new.out ≡ length c.args.out.now = c.out-1.given in
    simp length-set (omega arith)

pub bounds-out-7 : goal.bounds-out-7
bounds-out-7 c = let e : length c.put_head.new.out ≡ length c.args.out.now = c.out-1.given in
    simp length-set (omega arith)

pub returns : goal.returns
returns c = let a = c.args in
    reply-three a.out.now a.opcode (omega arith) a.status a.sub a.handle
    (c.put_head.ensures
    ∙ ap (λ (n : ℕ). put a.out.now 0 (head_of a.opcode n)) (c.answer_of.ensures ∙ c.requires.1))
