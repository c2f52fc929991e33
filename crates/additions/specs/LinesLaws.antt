-- The A4 lines of an image are additions of their editions: an edition is added by the very line that an image has of
-- it, and a text of such lines adds them in order. Document 02, T-12 ("an addition accepted after the image must be
-- given again, in the same order"). Assumes nothing.
use Rattle.std.specs.Prelude.{ℕ, zero, suc, ◌+◌, ◌≤◌, ◌<◌, ◌≡◌, refl, Bool, true, false, ◌&&◌, List, [], ◌∷◌, ◌++◌, map, leb, eqb, length}
use Rattle.std.proofs.Common.{sym, ap, ◌∙◌, arith, le-leb, eq-eqb, length-append}
use Rattle.laws.specs.TestsLaws.{pick_true, and_left, and_right, and_both}
use Rattle.laws.specs.Loops.{each, every}
use Rattle.laws.specs.LoopsLaws.{every_append}
use Rattle.octets.specs.Little.{octets_of, is_octet}
use Rattle.octets.specs.LittleLaws.{octets-octets}
use Rattle.lines.specs.Hex.{text_of, is_text, octets_in}
use Rattle.lines.specs.TextsLaws.{is-text, read-written}
use Rattle.sessions.specs.Machine.{Outcome, refused, done, last_number}
use Rattle.sessions.specs.Saved.{cut}
use Rattle.model.specs.Sound.{octets_up_to}
use Rattle.model.specs.Layout.{most_prefix}
use Rattle.steps.specs.FactsLaws.{up-to}
use Rattle.blocks.specs.RowsLaws.{octets-cons}
use Rattle.images.specs.TextsLaws.{cut-texts}
use Rattle.editions.specs.Editions.{Edition, sound_edition, edition_row, edition_in}
use Rattle.editions.proofs.ImagesLaws.{editions-in}
use Rattle.wholes.specs.Engine.{add_whole}
use Rattle.additions.specs.Additions.{is_addition, add_octets, add_line, next, Added, go_on, add_lines, add_text}

-- an image's line of an edition
unfoldable pub line_of : Edition → List ℕ
line_of e = 0xA4 ∷ edition_row e

line-octets : (e : Edition) → sound_edition e ≡ true → every is_octet (line_of e) ≡ true
unfolding line_of sound_edition edition_row
line-octets e s =
    let u = up-to most_prefix e.prefix
    (and_right (leb e.from last_number) (octets_up_to most_prefix e.prefix) s) in
    octets-cons 0xA4 (edition_row e) (omega arith)
    (every_append is_octet (octets_of 4 e.from) (length e.prefix ∷ e.prefix)
    ∙ and_both (octets-octets 4 e.from) (octets-cons (length e.prefix) e.prefix (omega (arith, u.0)) u.1))

line-form : (e : Edition) → is_addition (line_of e) ≡ true
unfolding line_of is_addition edition_row octets_of
line-form e =
    and_both (le-leb 6 (suc (suc (suc (suc (suc (suc (length e.prefix))))))) (omega arith))
    (eq-eqb (suc (suc (suc (suc (suc (suc (length e.prefix))))))) (6 + length e.prefix) (omega arith))

edition-in : (e : Edition) → sound_edition e ≡ true → edition_in (edition_row e) ≡ e
unfolding every
edition-in e s =
    let l : map edition_in (map edition_row (e ∷ [])) ≡ e ∷ [] = editions-in (e ∷ []) (and_both s refl) in
    cc

-- such a line is the addition of its edition
pub line-adds : (s : List ℕ) (e : Edition) → sound_edition e ≡ true → add_line s (text_of (line_of e)) ≡ add_whole s e
unfolding add_line add_octets line_of
line-adds s e k =
    let o : every is_octet (line_of e) ≡ true = line-octets e k in
    pick_true (add_octets s (octets_in (text_of (line_of e)))) (refused 4) (is-text (line_of e) o)
    ∙ ap (add_octets s) (read-written (line_of e) o)
    ∙ pick_true (add_whole s (edition_in (edition_row e))) (refused 4) (line-form e) ∙ ap (add_whole s) (edition-in e k)

-- editions added one after another, the first that is refused stops
unfoldable pub add_all : List ℕ → ℕ → List Edition → Added
add_all s n [] = add_lines s n []
add_all s n (e ∷ es) = go_on s n (add_whole s e) (λ t. add_all t (next n) es)

all_lines : (es : List Edition) (s : List ℕ) (n : ℕ) → every sound_edition es ≡ true
    → add_lines s n (map text_of (map line_of es)) ≡ add_all s n es
unfolding add_all add_lines go_on every
all_lines [] s n k = refl
all_lines (e ∷ es) s n k =
    rw (line-adds s e (and_left (sound_edition e) (every sound_edition es) k))
    (ends (add_whole s e) (λ t. all_lines es t (next n) (and_right (sound_edition e) (every sound_edition es) k)))
  where
    ends : (o : Outcome (List ℕ))
        → ((t : List ℕ) → add_lines t (next n) (map text_of (map line_of es)) ≡ add_all t (next n) es)
        → go_on s n o (λ t. add_lines t (next n) (map text_of (map line_of es))) ≡ go_on s n o (λ t. add_all t (next n) es)
    ends (done t w) f = f t
    ends (refused m) f = refl

-- a text of such lines
pub text-adds : (s : List ℕ) (es : List Edition) → every sound_edition es ≡ true
    → add_text s (each text_of (map line_of es)) ≡ add_all s 0 es
unfolding add_text
text-adds s es k = ap (add_lines s 0) (cut-texts (map line_of es)) ∙ all_lines es s 0 k
