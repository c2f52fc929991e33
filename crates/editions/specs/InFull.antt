-- P1, document 01's session in full, with the line that T-12 adds: "P1's images gain the line". The frames and the
-- answers are those of the crate model (InFull); an image has the A4 line of the one edition behind its first line.
-- Assumes nothing.
use Prim.Native.String.{String}
use Rattle.std.specs.Prelude.{List, [], ◌∷◌, map}
use Rattle.model.specs.InFull.{FullExample, in_full}

-- the edition from frame 0 on: number (4), length, 4D 53
abbrev pub line_in_full : String
line_in_full = "A400000000024D53\n"

unfoldable pub with_line : List String → List String
with_line [] = []
with_line (l ∷ ls) = l ∷ (line_in_full ∷ ls)

unfoldable pub lined_in_full : FullExample → FullExample
lined_in_full r = record { journal = r.journal; ticks = r.ticks; says = r.says; image = with_line r.image }

unfoldable pub in_full_on : List FullExample
in_full_on = map lined_in_full in_full
