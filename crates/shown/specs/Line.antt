-- A line in words, or why it is none (man/show.1; docs/FORMATS.md, What `show` writes). Definitions alone.
use Rattle.std.specs.Prelude.{ℕ, ◌-◌, Bool, true, false, not, ◌&&◌, ◌||◌, List, [], ◌++◌, leb, ltb, eqb, length, take, Option, Some, None}
use Rattle.laws.specs.Tests.{pick}
use Rattle.octets.specs.Numbers.{number_at}
use Rattle.decimals.specs.Decimals.{decimal}
use Rattle.model.specs.Quoted.{codes}
use Rattle.fields.specs.Names.{why_text}
use Rattle.fields.specs.declared.terms.Fault.{Fault}
use Rattle.fields.specs.declared.terms.Fault.TheVariants.{Empty, Long, NoDigits, NoKind, ShortFrame, NoFrame, NoForm}
use Rattle.decimals.specs.Decimals.{number_of}
use Rattle.lines.specs.Hex.{is_text, octets_in}
use Rattle.names.specs.Refusals.{refusal_name}
use Rattle.shown.specs.Commands.{complete_text, is_complete}
use Rattle.shown.specs.Frames.{frame_text, is_frame, change_text, is_change, report_text, is_report}
use Rattle.shown.specs.Image.{image_text, image_size, begins}

-- whether octets that begin so are a frame
unfoldable pub is_kind : ℕ → Bool
is_kind k = leb 1 k && leb k 4

-- why octets are no line, by their first: None where they are one
unfoldable pub why_no_frame : List ℕ → Option Fault
why_no_frame s = pick (ltb (length s) 5) (Some ShortFrame) (pick (is_frame s) None (Some NoFrame))

unfoldable pub is_event : List ℕ → Bool
is_event s = pick (eqb (number_at 1 s 0) 14) (is_complete s) (pick (eqb (number_at 1 s 0) 255) (is_change s) (is_report s))

unfoldable pub form_of : Bool → Option Fault
form_of good = pick good None (Some NoForm)

unfoldable pub why_not : List ℕ → Option Fault
why_not s =
    pick (is_kind (number_at 1 s 0)) (why_no_frame s)
    (pick (begins (number_at 1 s 0)) (form_of (eqb (length s) (image_size s))) (
    pick ((eqb (number_at 1 s 0) 14 || eqb (number_at 1 s 0) 255) || eqb (number_at 1 s 0) 62) (form_of (is_event s)) (Some NoKind)))

-- the words of octets that are a line
unfoldable pub line_text : List ℕ → List ℕ
line_text s =
    pick (is_kind (number_at 1 s 0)) (frame_text s)
    (pick (begins (number_at 1 s 0)) (image_text s) (pick (eqb (number_at 1 s 0) 14) (complete_text s) (
    pick (eqb (number_at 1 s 0) 255) (change_text s) (report_text s))))

-- what is said of a text that is no line
unfoldable pub no_line : Fault → List ℕ
no_line why = codes "not a line: " ++ why_text why

-- the words of octets, or why they are no line
unfoldable pub octets_why : List ℕ → Option Fault
octets_why s = pick (eqb (length s) 0) (Some Empty) (why_not s)

unfoldable pub said_of : List ℕ → Option Fault → List ℕ
said_of s None = line_text s
said_of s (Some why) = no_line why

unfoldable pub octets_text : List ℕ → List ℕ
octets_text s = said_of s (octets_why s)

-- whether there is nothing against a line
unfoldable pub is_fine : Option Fault → Bool
is_fine None = true
is_fine (Some why) = false

-- whether a text is upper-case hexadecimal with an LF, of a line's length; why it is not
unfoldable pub is_digits : List ℕ → Bool
is_digits text = is_text text && leb (length (octets_in text)) 263

unfoldable pub why_no_text : ℕ → Fault
why_no_text n = pick (leb n 1) Empty (pick (ltb 527 n) Long NoDigits)

unfoldable pub text_words : List ℕ → List ℕ
text_words text = pick (is_digits text) (octets_text (octets_in text)) (no_line (why_no_text (length text)))

-- a number that is a refusal's
unfoldable pub small_of : ℕ → Option ℕ
small_of x = pick (ltb 255 x) None (pick (eqb (length (refusal_name x)) 0) None (Some x))

unfoldable pub number_in : Option ℕ → Option ℕ
number_in (Some x) = small_of x
number_in None = None

-- the number of a refusal that a text is in decimal, before its LF
unfoldable pub refusal_in : List ℕ → Option ℕ
refusal_in text = pick (ltb (length text) 2) None (number_in (number_of (take (length text - 1) text)))

unfoldable pub is_number : Option ℕ → Bool
is_number (Some x) = true
is_number None = false

unfoldable pub is_refusal : List ℕ → Bool
is_refusal text = not (eqb (number_at 1 text 0) 48) && is_number (refusal_in text)

-- the words of a refusal's number
unfoldable pub refused_text : ℕ → List ℕ
refused_text x = (codes "refused by " ++ decimal x) ++ codes ": " ++ refusal_name x

unfoldable pub refused_in : Option ℕ → List ℕ
refused_in (Some x) = refused_text x
refused_in None = []

-- THE words of a line: a refusal's number, a frame, an event, a line of an image, or why it is none
unfoldable pub words_of : List ℕ → List ℕ
words_of text = pick (is_refusal text) (refused_in (refusal_in text)) (text_words text)

-- whether it is a line
unfoldable pub is_line : List ℕ → Bool
is_line text = pick (is_refusal text) true (is_digits text && is_fine (octets_why (octets_in text)))
