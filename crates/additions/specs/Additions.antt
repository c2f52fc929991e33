-- What a text of additions does to a state. Document 02, T-12: "an A4 line is its starting number (4), prefix length
-- and prefix"; an addition that was accepted "must be given again, in the same order, before replay". The text has
-- one a line, in that form. Definitions alone.
use Rattle.std.specs.Prelude.{ℕ, zero, suc, ◌+◌, ◌*◌, min, Bool, true, false, ◌&&◌, List, [], ◌∷◌, leb, eqb, length, drop, get_or}
use Rattle.std.proofs.Math.Option.{Option, none, some}
use Rattle.laws.specs.Tests.{pick}
use Rattle.lines.specs.Hex.{is_text, octets_in}
use Rattle.sessions.specs.Machine.{Outcome, refused, done}
use Rattle.sessions.specs.Saved.{cut}
use Rattle.editions.specs.Editions.{Edition, edition_in}
use Rattle.wholes.specs.Engine.{add_whole}

-- the octets before the prefix: the name A4, the starting number (4), the prefix length
abbrev pub prefix_at : ℕ
prefix_at = 6

-- the octets at most, with the most that the length octet can say, and the characters of their line, with its LF
abbrev pub most_octets : ℕ
most_octets = prefix_at + 255

abbrev pub line_most : ℕ
line_most = 2 * most_octets + 1

-- whether octets have the form of an A4 line: the name, a number, and as many octets behind the length octet as it says
unfoldable pub is_addition : List ℕ → Bool
is_addition r = leb prefix_at (length r) && (eqb (get_or r 0 0) 0xA4 && eqb (length r) (prefix_at + get_or r 5 0))

-- the answer to a line's octets: 4 where they have not that form, else what adding the edition answers: 7, 15, 14, 13
unfoldable pub add_octets : List ℕ → List ℕ → Outcome (List ℕ)
add_octets s r = pick (is_addition r) (add_whole s (edition_in (drop 1 r))) (refused 4)

-- the answer to a line: 4 where it is not upper-case hexadecimal with one LF at its end
unfoldable pub add_line : List ℕ → List ℕ → Outcome (List ℕ)
add_line s l = pick (is_text l) (add_octets s (octets_in l)) (refused 4)

-- what the additions reach: the state, the lines accepted, and the refusal that stopped them, if one did
pub record Added : Type 0 where
  pub state : List ℕ
  pub lines : ℕ
  pub stop : Option ℕ

-- a count and one more, at most the greatest number of 64 bits
unfoldable pub next : ℕ → ℕ
next n = min (n + 1) 18446744073709551615

-- "a refused one stops with its number", with the state reached before it; `rest` gives the lines that follow
unfoldable pub go_on : List ℕ → ℕ → Outcome (List ℕ) → (List ℕ → Added) → Added
go_on s n (done t wrote) rest = rest t
go_on s n (refused k) rest = record { state = s; lines = n; stop = some k }

-- each line gets the state that the one before returned
unfoldable pub add_lines : List ℕ → ℕ → List (List ℕ) → Added
add_lines s n [] = record { state = s; lines = n; stop = none }
add_lines s n (l ∷ ls) = go_on s n (add_line s l) (λ t. add_lines t (next n) ls)

-- the whole lines of a text; a final piece without LF is not a line and is not read
unfoldable pub add_text : List ℕ → List ℕ → Added
add_text s t = add_lines s 0 (cut t)
