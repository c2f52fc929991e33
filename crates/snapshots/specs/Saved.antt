-- The image's text of a whole block: the core's, with a line for each edition behind the first. Document 02, T-12
-- ("Editions go into the image as A4 lines after A0"). Assumes nothing.
use Rattle.std.specs.Prelude.{ℕ, ◌+◌, ◌*◌, Bool, ◌&&◌, List, ◌∷◌, ◌++◌, leb, eqb, length, take, drop, get_or}
use Rattle.laws.specs.Loops.{up_to}
use Rattle.octets.specs.Numbers.{at_most}
use Rattle.lines.specs.Hex.{text_of}
use Rattle.sessions.specs.Machine.{save_room}
use Rattle.model.specs.Layout.{block_size, most_prefix}
use Rattle.save.specs.Text.{head_text, rest_text}
use Rattle.editions.specs.Block.{edition_size}
use Rattle.wholes.specs.Layout.{editions_at, whole_size}
use Rattle.prefixes.specs.Held.{edition_count}

-- where edition i stands, how long its prefix is, and its line
abbrev pub place_of : ℕ → ℕ
place_of i = editions_at + edition_size * i

unfoldable pub length_at : List ℕ → ℕ → ℕ
length_at s i = at_most (get_or s (place_of i + 4) 0) most_prefix

unfoldable pub line_at : List ℕ → ℕ → List ℕ
line_at s i = text_of (0xA4 ∷ take (5 + length_at s i) (drop (place_of i) s))

unfoldable pub lines_text : List ℕ → List ℕ
lines_text s = up_to (line_at s) (edition_count s)

-- the text of a block of any octets
abbrev pub core_of : List ℕ → List ℕ
core_of s = take block_size s

unfoldable pub saved_on : List ℕ → List ℕ
saved_on s = head_text (core_of s) ++ (lines_text s ++ rest_text (core_of s))

unfoldable pub saves_on : List ℕ → ℕ → Bool
saves_on s room = eqb (length s) whole_size && leb save_room room
