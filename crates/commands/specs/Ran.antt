-- What a command leaves, before the position moves: each command with each outcome. Document 01, Commands. Assumes
-- nothing.
use Rattle.std.specs.Prelude.{ℕ, ◌≡◌, true, List}
use Rattle.model.specs.Types.{Model}
use Rattle.model.specs.Commands.{returned, commanded}
use Rattle.model.specs.Events.{complete}
use Rattle.model.specs.Sound.{sound_model}
use Rattle.model.specs.Block.{padded}
use Rattle.steps.specs.Stepped.{Within}
use Rattle.commands.specs.Replies.{Replied}

-- The command l took the block of the state m to `after`, but for the position, and the output from `out` to `wrote`.
pub record Ran (m : Model) (l after out wrote : List ℕ) (n : ℕ) : Type 0 where
  pub block : after ≡ padded (commanded m l)
  pub reply : Replied out wrote n (complete m.opcode (returned m l))

-- The same of the block s of whatever sound state; and of any block, that the octets past what is written are as they
-- were.
abbrev pub Runs : List ℕ → List ℕ → List ℕ → List ℕ → List ℕ → ℕ → Type 0
Runs l s after out wrote n =
    ((m : Model) → sound_model m ≡ true → s ≡ padded m → Ran m l after out wrote n) × Within out wrote n
