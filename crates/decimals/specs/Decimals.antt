-- Numbers in decimal, written and read. Definitions alone.
use Rattle.std.specs.Prelude.{ℕ, zero, suc, ◌+◌, ◌-◌, ◌*◌, ◌/◌, ◌%◌, Bool, ◌&&◌, List, [], ◌∷◌, ◌++◌, leb, ltb, length, Option, Some, None}
use Rattle.laws.specs.Tests.{pick}
use Rattle.laws.specs.Loops.{every}

-- a number in decimal, of at most k + 1 digits, no zero in front
unfoldable pub decimal_in : ℕ → ℕ → List ℕ
decimal_in zero n = (48 + n % 10) ∷ []
decimal_in (suc k) n = pick (leb n 9) ((48 + n) ∷ []) (decimal_in k (n / 10) ++ ((48 + n % 10) ∷ []))

-- a number of 64 bits in decimal
unfoldable pub decimal : ℕ → List ℕ
decimal n = decimal_in 19 n

-- what is written where a text has room for so many digits
unfoldable pub written_in : ℕ → ℕ → ℕ → List ℕ
written_in k n room = pick (ltb k room) (decimal_in k n) []

-- the greatest number that is read, and the greatest of 64 bits
abbrev pub last : ℕ
last = 4294967295

abbrev pub top : ℕ
top = 18446744073709551615

-- a digit, and the value of digits behind a value, highest first
unfoldable pub is_digit : ℕ → Bool
is_digit c = leb 48 c && leb c 57

unfoldable pub value_from : ℕ → List ℕ → ℕ
value_from v [] = v
value_from v (c ∷ cs) = value_from (v * 10 + (c - 48)) cs

-- whether a word is a number of 32 bits: digits alone, one or more
unfoldable pub is_number : List ℕ → Bool
is_number word = leb 1 (length word) && (every is_digit word && leb (value_from 0 word) last)

-- the number that a word is
unfoldable pub number_of : List ℕ → Option ℕ
number_of word = pick (is_number word) (Some (value_from 0 word)) None

-- the same as a loop reads it: once above the greatest number a value stays there
unfoldable pub grown : ℕ → ℕ → ℕ
grown v c = pick (is_digit c && leb v last) (v * 10 + (c - 48)) top

unfoldable pub grown_from : ℕ → List ℕ → ℕ
grown_from v [] = v
grown_from v (c ∷ cs) = grown_from (grown v c) cs

unfoldable pub number_from : ℕ → Option ℕ
number_from v = pick (leb v last) (Some v) None
