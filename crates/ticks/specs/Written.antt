-- Laws of the functions on one row: each ends in what a function owes. Document 01, Watching, by history (Tick).
-- Assumes nothing.
use Rattle.std.specs.Prelude.{ℕ, ◌≡◌, List, length}
use Rattle.laws.specs.Put.{put}

-- what stands in the output and how many octets were written
pub record Appended (out after : List ℕ) (at n : ℕ) (octets : List ℕ) : Type 0 where
  pub put-there : after ≡ put out at octets
  pub count : n ≡ length octets
