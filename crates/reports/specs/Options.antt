-- What the options of the program ask (man/standby.1), and what an image's file holds. Definitions alone.
use Rattle.std.specs.Prelude.{ℕ, zero, suc, ◌+◌, Bool, true, false, not, ◌&&◌, List, [], ◌∷◌, ◌++◌, leb, eqb, length, take, Option, Some, None}
use Rattle.laws.specs.Tests.{pick, sames}
use Rattle.octets.specs.Numbers.{number_at}
use Rattle.decimals.specs.Decimals.{number_of}
use Rattle.reports.specs.declared.Asked.{Asked}
use Rattle.model.specs.Quoted.{codes}

-- no option
unfoldable pub plain_asked : Asked
plain_asked = record { after = 0; given = false; numbered = false; progress = false; good = true }

unfoldable pub with_numbers : Asked → Asked
with_numbers a = record { after = a.after; given = a.given; numbered = true; progress = a.progress; good = a.good }

unfoldable pub with_progress : Asked → Asked
with_progress a = record { after = a.after; given = a.given; numbered = a.numbered; progress = true; good = a.good }

-- a number that is none makes the options bad
unfoldable pub with_after : Asked → Option ℕ → Asked
with_after a (Some n) = record { after = n; given = true; numbered = a.numbered; progress = a.progress; good = a.good }
with_after a None = record { after = 0; given = true; numbered = a.numbered; progress = a.progress; good = false }

-- an option by its word and the next one: --numbered, --progress, --after N, which may stand once; any other word is
-- none
unfoldable pub option_of : Asked → List ℕ → List ℕ → Asked
option_of a word number =
    pick (sames word (codes "--numbered")) (with_numbers a) (pick (sames word (codes "--progress")) (with_progress a) (
    pick (not a.given && sames word (codes "--after")) (with_after a (number_of number)) a))

-- the place of the first file name, behind the program's name and the options
unfoldable pub behind_of : ℕ → Bool → ℕ
behind_of i there = pick there (i + 1) i

unfoldable pub first_name : Asked → ℕ
first_name a = behind_of (behind_of (behind_of (behind_of 1 a.numbered) a.progress) a.given) a.given

-- whether so many words are good options and two file names, or three
unfoldable pub fits_of : Asked → ℕ → Bool
fits_of a words = a.good && (leb (first_name a + 2) words && leb words (first_name a + 3))

-- whether the third is there, the name of the additions' file
unfoldable pub adds_of : Asked → ℕ → Bool
adds_of a words = eqb words (first_name a + 3)

-- a word that begins as an option does, and standard input
unfoldable pub is_option : List ℕ → Bool
is_option word = leb 2 (length word) && sames (take 2 word) (codes "--")

-- whether a word begins with a dash, and is more than one
unfoldable pub is_dashed : List ℕ → Bool
is_dashed word = leb 2 (length word) && eqb (number_at 1 word 0) 45

unfoldable pub is_dash : List ℕ → Bool
is_dash word = sames word (codes "-")

-- whether two words may be the names of an image and a journal: not both standard input, and the first no option
unfoldable pub names_of : List ℕ → List ℕ → Bool
names_of image journal = not (is_dash image && is_dash journal) && not (is_option image)

-- with a third of additions: no two of the three standard input
unfoldable pub three_of : List ℕ → List ℕ → List ℕ → Bool
three_of image journal additions =
    not (is_dash image && is_dash additions) && (not (is_dash journal && is_dash additions) && names_of image journal)
