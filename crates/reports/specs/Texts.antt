-- What the program of a standby says on standard error (man/standby.1). Definitions alone.
use Rattle.std.specs.Prelude.{ℕ, ◌+◌, ◌-◌, ◌/◌, min, Bool, true, false, not, ◌&&◌, List, [], ◌++◌, ltb, eqb, length, take, Result, Ok, Err}
use Rattle.laws.specs.Tests.{pick}
use Rattle.octets.specs.Numbers.{number_at}
use Rattle.decimals.specs.Decimals.{decimal, top}
use Rattle.refusals.specs.declared.Refusal.{Refusal}
use Rattle.lines.specs.Frame.{line_room}
use Rattle.refusals.specs.Numbers.{number}
use Rattle.names.specs.Refusals.{refusal_name}
use Rattle.model.specs.Quoted.{codes}
use Rattle.reader.specs.Pairs.{leading}
use Rattle.turns.specs.Swap.{long_line}
use Rattle.takeover.specs.declared.Next.{Next}
use Rattle.takeover.specs.declared.Next.TheVariants.{Read, Again, Ended, Stopped}
use Rattle.takeover.specs.declared.Flow.{Flow}

-- one more
unfoldable pub next : ℕ → ℕ
next n = min (n + 1) top

-- a refusal's number in words, where it is a refusal's
unfoldable pub reason_of : ℕ → List ℕ
reason_of n = pick (eqb (length (refusal_name n)) 0) [] (codes " (" ++ refusal_name n ++ codes ")")

-- a refusal
unfoldable pub reason_text : ℕ → List ℕ
reason_text n = codes ": refused by " ++ (decimal n ++ reason_of n)

-- of a gap, the frame's number that was due and the one that came
unfoldable pub gap_text : ℕ → ℕ → ℕ → List ℕ
gap_text n position found =
    pick (eqb n 2) (codes ": frame "
    ++ (decimal (next position) ++ (codes " expected, " ++ (decimal found ++ codes " found")))) []

-- the line that was refused, by its number in the journal, and why: behind the journal's name
unfoldable pub stop_text : ℕ → ℕ → ℕ → ℕ → List ℕ
stop_text lines n position found =
    codes ":" ++ (decimal (next lines) ++ (reason_text n ++ (gap_text n position found ++ codes "\n")))

-- the frame's number in the line at a text's start, least octet first; 0 where it has none
unfoldable pub found_in : List ℕ → ℕ
found_in text = number_at 4 (leading text 2 4) 0

-- what is said of a takeover that was stopped, behind the journal's name: by the text held, at whose start the
-- refused line stands
unfoldable pub stop_by : Next → ℕ → ℕ → ℕ → List ℕ
stop_by Read lines position found = []
stop_by Again lines position found = []
stop_by Ended lines position found = []
stop_by (Stopped x) lines position found = stop_text lines (number x) position found

unfoldable pub stop_of : Flow → ℕ → List ℕ → List ℕ
stop_of f position text = stop_by f.next f.lines position (found_in text)

-- what is said of additions of which one was refused, by the lines accepted before it, behind their file's name
unfoldable pub addition_by : Result Unit Refusal → ℕ → List ℕ
addition_by (Ok tt) lines = []
addition_by (Err x) lines = stop_text lines (number x) 0 0

-- of a last piece of their file that was not read, behind its name
unfoldable pub rest_of : ℕ → List ℕ
rest_of size = pick (eqb size 0) [] (codes ": a last piece without LF not read\n")

-- a refused image, behind its name
unfoldable pub refused_of : Refusal → List ℕ
refused_of x = reason_text (number x) ++ codes "\n"

unfoldable pub is_ended : Next → Bool
is_ended Read = false
is_ended Again = false
is_ended Ended = true
is_ended (Stopped x) = false

-- what is left behind the last LF; of a piece that is longer than any line only its start was kept
unfoldable pub size_text : ℕ → List ℕ
size_text n = pick (ltb n long_line) (decimal n) (codes "more than " ++ decimal line_room)

unfoldable pub piece_text : Next → ℕ → List ℕ
piece_text n size =
    pick (is_ended n && not (eqb size 0))
    (codes "; a last piece of " ++ (size_text size ++ codes " octets without LF not read")) []

-- what was read and done
unfoldable pub counts_text : ℕ → ℕ → ℕ → List ℕ
counts_text lines executed position =
    codes "standby: "
    ++ (decimal lines
    ++ (codes " lines read, " ++ (decimal executed ++ (codes " executed, " ++ (decimal (lines - executed)
    ++ (codes " seen before; position " ++ decimal position))))))

unfoldable pub summary_of : Flow → ℕ → List ℕ
summary_of f position = counts_text f.lines f.executed position ++ (piece_text f.next f.held ++ codes "\n")

-- a warning, where lines were read to the journal's end and none was executed
unfoldable pub warns : Flow → Bool
warns f = (eqb f.executed 0 && ltb 0 f.lines) && is_ended f.next

unfoldable pub warning_of : Flow → List ℕ
warning_of f =
    pick (warns f) (codes
    "standby: warning: lines were read and none was executed: is this the journal that belongs to the image?\n") []

-- how far a long journal is read: at every 1,048,576 lines
abbrev pub every : ℕ
every = 1048576

unfoldable pub progress_of : ℕ → ℕ → List ℕ
progress_of before after =
    pick (ltb (before / every) (after / every)) (codes "standby: " ++ (decimal after ++ codes " lines read so far\n"))
    []
