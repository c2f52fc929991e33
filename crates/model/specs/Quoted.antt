-- Quoted texts as lists of character codes, for rows that quote document 01. Assumes nothing.
use Rattle.std.specs.Prelude.{ℕ}
use Prim.Native.Char.{code}
use Prim.Native.String.{String, [], ◌∷◌}
use mathlib.Core.List.{List}

-- the codes of a text's characters
unfoldable pub codes : String → List ℕ
codes [] = mathlib.Core.List.[]
codes (c ∷ s) = mathlib.Core.List.◌∷◌ (code c) (codes s)
