-- A time of day as a word: hh:mm:ss. Definitions, and the laws of reading it. Assumes nothing.
use Rattle.std.specs.Prelude.{ℕ, ◌+◌, ◌-◌, ◌*◌, Bool, ◌&&◌, List, Option, None, Some, leb, ltb, eqb, length}
use Rattle.laws.specs.Tests.{pick}
use Rattle.octets.specs.Numbers.{number_at}

-- characters: the last digit, and the one behind it
abbrev pub nine : ℕ
nine = 48 + 9

abbrev pub colon : ℕ
colon = 48 + 10

-- the number of two decimal digits at an index, where it is below a limit
unfoldable pub is_digit : ℕ → Bool
is_digit c = leb 48 c && leb c nine

unfoldable pub two_at : List ℕ → ℕ → ℕ → Option ℕ
two_at w i limit =
    pick (is_digit (number_at 1 w i) && is_digit (number_at 1 w (i + 1)))
    (pick (ltb (10 * (number_at 1 w i - 48) + (number_at 1 w (i + 1) - 48)) limit)
    (Some (10 * (number_at 1 w i - 48) + (number_at 1 w (i + 1) - 48))) None) None

-- eight characters, colons at their places
unfoldable pub is_form : List ℕ → Bool
is_form w = eqb (length w) 8 && eqb (number_at 1 w 2) colon && eqb (number_at 1 w 5) colon

-- hours, minutes and seconds as ticks
unfoldable pub ticks_in : Option ℕ → Option ℕ → Option ℕ → Option ℕ
ticks_in None m s = None
ticks_in (Some h) None s = None
ticks_in (Some h) (Some m) None = None
ticks_in (Some h) (Some m) (Some s) = Some ((h * 3600 + m * 60 + s) * 10)

-- a time of day, in ticks since midnight
unfoldable pub clock_in : List ℕ → Option ℕ
clock_in w = pick (is_form w) (ticks_in (two_at w 0 24) (two_at w 3 60) (two_at w 6 60)) None
