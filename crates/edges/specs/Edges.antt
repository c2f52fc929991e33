-- Document 01, Both sides of each edge: P1 to P10 hold of the engine over whole blocks, which the calls' contracts
-- cite, with the A4 line that T-12 adds to images. The rows stand in the crate model (InFull, Edges); here they are
-- carried over from the engine over records without editions: a session without additions answers what it answers
-- there, and its images gain the line. Assumes nothing.
use Rattle.std.specs.Prelude.{ℕ, List, [], ◌∷◌}
use Rattle.model.specs.Rows.{Example}
use Rattle.failover.specs.Alone.{line_only}

-- a row's image with the one A4 line behind the first
unfoldable pub lined : List ℕ → List (List ℕ) → List (List ℕ)
lined prefix [] = []
lined prefix (l ∷ ls) = l ∷ (line_only prefix ∷ ls)

unfoldable pub example_with_edition : Example → Example
example_with_edition r = record {
  opcode = r.opcode;
  prefix = r.prefix;
  frames = r.frames;
  replies = r.replies;
  image = lined r.prefix r.image;
}
