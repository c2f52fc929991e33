-- The Command Complete of each command, written part by part. Document 01, Commands ("Answer: Command Complete, 0x0E,
-- length, 0x01, opcode (2), return parameters"). Assumes nothing.
use Rattle.std.specs.Prelude.{ℕ, ◌+◌, ◌≤◌, ◌≡◌, List, ◌∷◌, ◌++◌, length, take, drop, get_or}
use Rattle.laws.specs.Put.{put}
use Rattle.octets.specs.Little.{octets_of}
use Rattle.octets.specs.Numbers.{at_most}
use Rattle.model.specs.Commands.{features}
use Rattle.model.specs.Layout.{command_most, most_prefix, prefix_at, prefix_length_at}

-- an answer written at the front of the output, and its length
pub record Replied (out wrote : List ℕ) (n : ℕ) (a : List ℕ) : Type 0 where
  pub octets : wrote ≡ put out 0 a
  pub count : n ≡ length a
  pub most : n ≤ command_most

-- what comes before the return parameters, of which there are n
unfoldable pub head_of : ℕ → ℕ → List ℕ
head_of opcode n = 0x0E ∷ (3 + n) ∷ 0x01 ∷ octets_of 2 opcode

-- the number of octets of the prefix, 32 where the octet says more; and the prefix
unfoldable pub prefix_count : List ℕ → ℕ
prefix_count s = at_most (get_or s prefix_length_at 0) most_prefix

unfoldable pub prefix_in : List ℕ → List ℕ
prefix_in s = take (prefix_count s) (drop prefix_at s)

-- the return parameters of 00
unfoldable pub features_of : List ℕ → List ℕ
features_of prefix = 0x00 ∷ 0x00 ∷ (features ++ (length prefix ∷ prefix))
