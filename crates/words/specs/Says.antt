-- Words put behind what an output has, as far as there is room. Definitions, and the laws of putting words one behind
-- another and of choosing them. Assumes nothing.
use Rattle.std.specs.Prelude.{ℕ, ◌+◌, ◌-◌, ◌≡◌, List, length, take}
use Rattle.laws.specs.Put.{put}

-- what of words has room behind the first at octets
unfoldable pub fitting : List ℕ → ℕ → List ℕ → List ℕ
fitting out at w = take (length out - at) w

-- the output with words behind its first at octets, and the end then
pub record Says (out : List ℕ) (at : ℕ) (w out' : List ℕ) (r : ℕ) : Type 0 where
  pub text : out' ≡ put out at (fitting out at w)
  pub end : r ≡ at + length (fitting out at w)
