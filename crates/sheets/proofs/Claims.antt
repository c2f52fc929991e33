-- Document 02, T-10: "`--csv` reads back what it writes", over the contracts of `sheets::write` and `sheets::read`.
-- Assumes nothing.
use Rattle.std.specs.Prelude.{ℕ, suc, ◌*◌, ◌≤◌, ◌≡◌, true, List, [], ◌∷◌, length, take, Option, None, Some, is_some}
use Rattle.std.proofs.Common.{sym, ap, ◌∙◌, arith, length-append}
use Rattle.std.proofs.lemmas.Bool.{false≢true}
use Rattle.laws.specs.Put.{put}
use Rattle.laws.specs.Loops.{every}
use Rattle.totals.specs.declared.Row.{Row}
use Rattle.totals.specs.Table.{table_rows}
use Rattle.sheets.specs.Sheet.{names_then, lines_from, sheet_text, row_ok, read_sheet, written_in, line_octets, room}
use Rattle.sheets.proofs.BackLaws.{reads-back, only-written}
use Rattle.sheets.proofs.WritingLaws.{row-most, row-then, again}

-- what `write` ensures of what it wrote into out, and `read` of what it gives for a text
abbrev pub Wrote : List Row → List ℕ → List ℕ → ℕ → Type 0
Wrote rows out out₁ n = (n ≡ length (written_in (length out) rows)) × (out₁ ≡ put out 0 (written_in (length out) rows))

abbrev pub Read : List ℕ → Option (List Row) → Type 0
Read t o = o ≡ read_sheet t

-- WHAT WAS WRITTEN IS READ BACK, with any buffer that has the room
pub read_back : (rows : List Row) (out out₁ : List ℕ) (n : ℕ) (o : Option (List Row))
    → length rows ≡ table_rows → every row_ok rows ≡ true
    → room ≤ length out → Wrote rows out out₁ n → Read (take n out₁) o → o ≡ Some rows
read_back rows out out₁ n o l e h w r = r ∙ ap read_sheet (again rows out out₁ n h w) ∙ reads-back rows l e

-- A TEXT THAT IS READ IS THE TEXT OF ITS ROWS, so two texts that give the same rows are one text
pub text-read : (t : List ℕ) (rows : List Row) → Read t (Some rows) → (t ≡ sheet_text rows)
    × (length rows ≡ table_rows) × (every row_ok rows ≡ true)
text-read t rows r = only-written t rows (sym r)

pub one-text : (t u : List ℕ) (rows : List Row) → Read t (Some rows) → Read u (Some rows) → t ≡ u
one-text t u rows r s = (text-read t rows r).0 ∙ sym (text-read u rows s).0

-- a text that gives no rows is the text of none
pub no_text : (t : List ℕ) (rows : List Row) → Read t None → length rows ≡ table_rows → every row_ok rows ≡ true
    → t ≡ sheet_text rows → ⊥
no_text t rows r l e q =
    let n : None ≡ Some rows = r ∙ ap read_sheet q ∙ reads-back rows l e in
    false≢true (ap (λ (o : Option (List Row)). is_some o) n)

-- the room is enough: a longer text is no text of rows
lines-most : (h : ℕ) (rows : List Row) → length (lines_from h rows) ≤ line_octets * length rows
unfolding lines_from
lines-most h [] = omega arith
lines-most h (r ∷ rs) =
    let a = row-most h r in
    let b = lines-most (suc h) rs in
    rw (row-then h r (lines_from (suc h) rs)) (simp length-append (omega (arith, a, b)))

pub text-most : (t : List ℕ) (rows : List Row) → Read t (Some rows) → length t ≤ room
unfolding sheet_text names_then
text-most t rows r =
    let w = text-read t rows r in
    let l = lines-most 0 rows in
    let n = w.1 in
    rw w.0 (simp length-append (omega (arith, l, n)))
