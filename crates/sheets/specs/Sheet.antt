-- The text of sixteen rows as `bin/month --csv` writes it, and what such a text is read as (document 02, T-10:
-- "`--csv` reads back what it writes"). Definitions alone.
use Rattle.std.specs.Prelude.{ℕ, zero, suc, ◌-◌, Bool, ◌&&◌, List, [], ◌∷◌, ◌++◌, eqb, leb, ltb, ℤ, pos, negsuc, get_or, drop, Option, None, Some}
use Rattle.laws.specs.Tests.{pick, sames}
use Rattle.laws.specs.Loops.{every}
use Rattle.decimals.specs.Decimals.{decimal, value_from}
use Rattle.totals.specs.declared.Row.{Row}
use Rattle.totals.specs.Sums.{count_fits, sum_fits}
use Rattle.totals.specs.Table.{table_rows}

-- the names, `handle,packets,reports,ticks,sum`, in one line, and the text behind it
abbrev pub handle_word : List ℕ
handle_word = 104 ∷ 97 ∷ 110 ∷ 100 ∷ 108 ∷ 101 ∷ []

abbrev pub packets_word : List ℕ
packets_word = 112 ∷ 97 ∷ 99 ∷ 107 ∷ 101 ∷ 116 ∷ 115 ∷ []

abbrev pub reports_word : List ℕ
reports_word = 114 ∷ 101 ∷ 112 ∷ 111 ∷ 114 ∷ 116 ∷ 115 ∷ []

abbrev pub ticks_word : List ℕ
ticks_word = 116 ∷ 105 ∷ 99 ∷ 107 ∷ 115 ∷ []

abbrev pub sum_word : List ℕ
sum_word = 115 ∷ 117 ∷ 109 ∷ []

abbrev pub names : List ℕ
names = handle_word
    ++ (44 ∷ (packets_word ++ (44 ∷ (reports_word ++ (44 ∷ (ticks_word ++ (44 ∷ (sum_word ++ (10 ∷ [])))))))))

unfoldable pub names_then : List ℕ → List ℕ
names_then t = names ++ t

-- a whole number with its sign: `-` in front of one below zero
unfoldable pub signed : ℤ → List ℕ
signed (pos n) = decimal n
signed (negsuc n) = 45 ∷ decimal (suc n)

-- the line of a handle's row, and the text behind it
unfoldable pub row_then : ℕ → Row → List ℕ → List ℕ
row_then h r rest =
    decimal h ++ (44
    ∷ (decimal r.packets
    ++ (44 ∷ (decimal r.reports ++ (44 ∷ (decimal r.ticks ++ (44 ∷ (signed r.sum ++ (10 ∷ rest)))))))))

unfoldable pub lines_from : ℕ → List Row → List ℕ
lines_from h [] = []
lines_from h (r ∷ rs) = row_then h r (lines_from (suc h) rs)

-- the text of rows
unfoldable pub sheet_text : List Row → List ℕ
sheet_text rows = names_then (lines_from 0 rows)

-- the word in front of a text, up to a comma, an LF or any other octet below `-`, and the text behind that octet
unfoldable pub word_of : List ℕ → List ℕ
word_of [] = []
word_of (c ∷ r) = pick (ltb c 45) [] (c ∷ word_of r)

unfoldable pub behind : List ℕ → List ℕ
behind [] = []
behind (c ∷ r) = pick (ltb c 45) r (behind r)

-- the number that a word is, and one with its sign
unfoldable pub count_at : List ℕ → ℕ
count_at t = value_from 0 (word_of t)

unfoldable pub negative : ℕ → ℤ
negative v = pick (eqb v 0) (pos 0) (negsuc (v - 1))

unfoldable pub sum_at : List ℕ → ℤ
sum_at t = pick (eqb (get_or t 0 0) 45) (negative (count_at (drop 1 t))) (pos (count_at t))

-- the row of a line, behind its handle, and the text behind the line's five words
unfoldable pub row_of : List ℕ → Row
row_of t =
    record {
      packets = count_at (behind t);
      reports = count_at (behind (behind t));
      ticks = count_at (behind (behind (behind t)));
      sum = sum_at (behind (behind (behind (behind t))));
    }

unfoldable pub line_behind : List ℕ → List ℕ
line_behind t = behind (behind (behind (behind (behind t))))

unfoldable pub rows_at : ℕ → List ℕ → List Row
rows_at zero t = []
rows_at (suc n) t = row_of t ∷ rows_at n (line_behind t)

-- the rows that stand behind the line of names, were the text one of rows
unfoldable pub parsed : List ℕ → List Row
parsed t = rows_at table_rows (line_behind t)

-- totals of 64 bits
unfoldable pub row_ok : Row → Bool
row_ok r = count_fits r.packets && (count_fits r.reports && (count_fits r.ticks && sum_fits r.sum))

-- what a text is read as: rows of 64 bits whose text it is, octet for octet; none of any other
unfoldable pub read_sheet : List ℕ → Option (List Row)
read_sheet t = pick (every row_ok (parsed t) && sames (sheet_text (parsed t)) t) (Some (parsed t)) None

-- octets enough for the text of any sixteen rows: the line of names, and for each row five words with what ends them
abbrev pub names_octets : ℕ
names_octets = 33

abbrev pub line_octets : ℕ
line_octets = 106

abbrev pub room : ℕ
room = 1729

-- what is written where a text has so many octets: nothing where they are too few
unfoldable pub written_in : ℕ → List Row → List ℕ
written_in n rows = pick (leb room n) (sheet_text rows) []
