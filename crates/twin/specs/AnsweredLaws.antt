-- The answer to a tick and to a packet among the kept frames; and what the calls answer and leave, branch by branch.
-- Document 02, T-07. Assumes nothing.
use Rattle.std.specs.Prelude.{◌≡◌, ℕ, List, refl}
use Rattle.std.proofs.Common.{sym, ap, ◌∙◌, subst}
use Rattle.model.specs.Frames.{packet_of}
use Rattle.commands.specs.Replies.{prefix_in}
use Rattle.packets.specs.Writes.{PutAt}
use Rattle.pasts.specs.Says.{packet_says, answer_for, tick_says}
use Rattle.twin.specs.Table.{kind_at, past_at, payload_at}
use Rattle.twin.specs.Hears.{Formed}
use Rattle.twin.specs.SilentLaws.{typed-tick}
use Rattle.twin.specs.Seen.{Comes}
use Rattle.twin.specs.Answers.{says_at}

module _ (head t : List ℕ) (i : ℕ) {out o : List ℕ} {r : ℕ} where
  pub says-tick : Formed t i → kind_at t i ≡ 3 → PutAt out 0 (tick_says (prefix_in head) (past_at t i)) o r
      → PutAt out 0 (says_at head t i) o r
  unfolding says_at answer_for
  says-tick f k w = rw (typed-tick t i f k) w

  pub says-packet : Comes t i → PutAt out 0 (packet_says (prefix_in head) (past_at t i) (packet_of (payload_at t i))) o r
      → PutAt out 0 (says_at head t i) o r
  unfolding says_at answer_for
  says-packet c w = rw c.typed w
