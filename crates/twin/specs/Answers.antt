-- What a kept frame writes, from the head of the block and the table of frames: Command Complete of a command, branch
-- by branch. Document 01, Commands; document 02, T-07. Assumes nothing.
use Rattle.std.specs.Prelude.{ℕ, List}
use Rattle.octets.specs.Little.{little}
use Rattle.model.specs.Layout.{opcode_at}
use Rattle.commands.specs.Replies.{prefix_in}
use Rattle.pasts.specs.Says.{answer_for}
use Rattle.twin.specs.Table.{past_at, typed_at}

-- what frame i writes behind the i before it, with the opcode and the prefix of a head
unfoldable pub says_at : List ℕ → List ℕ → ℕ → List ℕ
says_at head t i = answer_for (little 2 head opcode_at) (prefix_in head) (past_at t i) (typed_at t i)
