-- A text held to what save would write, line by line: the index behind a line that stands at an index. Document 01,
-- The image; refusal 10. Assumes nothing.
use Rattle.std.specs.Prelude.{ℕ, ◌+◌, Bool, true, false, ◌&&◌, List, [], ◌∷◌, eqb, length, drop}
use Rattle.laws.specs.Tests.{pick}

-- whether a text begins with a line
unfoldable pub begins : List ℕ → List ℕ → Bool
begins [] t = true
begins (a ∷ l) [] = false
begins (a ∷ l) (b ∷ t) = eqb a b && begins l t

-- an index past every image
abbrev pub lost : ℕ
lost = 65536

-- the index behind a line that stands in a text at an index; lost where another text stands there
unfoldable pub passed : List ℕ → ℕ → List ℕ → ℕ
passed t at l = pick (begins l (drop at t)) (at + length l) lost
