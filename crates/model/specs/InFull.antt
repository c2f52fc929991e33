-- Document 01, "A session in full", in its own text: the lines given, the answer lines and the image's lines,
-- character by character. P1.
use Rattle.std.specs.Prelude.{ℕ, zero, suc, Bool, true, false, ◌&&◌, List, [], ◌∷◌, ◌++◌, length, take, drop, get_or}
use Prim.Native.String.{String}
use Rattle.std.proofs.Math.Option.{Option, none, some}
use Rattle.laws.specs.Tests.{sames}
use Rattle.laws.specs.Loops.{each}
use Rattle.octets.specs.Little.{octets_of}
use Rattle.lines.specs.Hex.{text_of}
use Rattle.sessions.specs.Machine.{Machine, answer_room}
use Rattle.sessions.specs.Saved.{Replayed, replay}
use Rattle.model.specs.Quoted.{codes}

-- "Opcode 0xFC1E, prefix 4D 53."
abbrev pub opcode_in_full : ℕ
opcode_in_full = 0xFC1E

abbrev pub prefix_in_full : List ℕ
prefix_in_full = 0x4D ∷ 0x53 ∷ []

-- "The fresh image is"
abbrev fresh_image : List String
fresh_image =
    "A000000000001EFC024D53\n" ∷
    "AF0000\n" ∷ []

-- "Frames:"
abbrev frames_in_full : List String
frames_in_full =
    "01010000001EFC0D03C4B003000400060504030201\n" ∷
    "0202000000000006050403020100C4\n" ∷ []

-- "Answers, one event a line:"
abbrev answers_in_full : List String
answers_in_full =
    "0E06011EFC000300\n" ∷
    "FF0C4D5302000605040302010001\n" ∷
    "3E0C0201000006050403020100C4\n" ∷ []

-- "Image:"
abbrev image_in_full : List String
image_in_full =
    "A002000000001EFC024D53\n" ∷
    "A100C4B00300040700060504030201\n" ∷
    "A30000060504030201000000000000000000000000000000C40000\n" ∷
    "AF0101\n" ∷ []

-- "Then 29 ticks write nothing; the 30th writes"
abbrev stop_in_full : List String
stop_in_full = "FF0C4D5302000605040302010000\n" ∷ []

-- a text and then lines of ticks, k of them, the first with number n
unfoldable pub ticks_text : ℕ → ℕ → List ℕ
ticks_text zero n = []
ticks_text (suc k) n = text_of (3 ∷ octets_of 4 n) ++ ticks_text k (suc n)

-- The events of an answer of at most n octets: each has its length in its second octet.
unfoldable pub hci_events : ℕ → List ℕ → List (List ℕ)
hci_events zero l = []
hci_events (suc n) [] = []
hci_events (suc n) (c ∷ l) = (c ∷ take (suc (get_or l 0 0)) l) ∷ hci_events n (drop (suc (get_or l 0 0)) l)

-- an answer's lines, one event a line
unfoldable pub answer_lines : List ℕ → List ℕ
answer_lines a = each text_of (hci_events (length a) a)

-- A row: the journal's lines and ticks after them, the answer lines, and the image's lines at the end (none: not
-- compared).
pub record FullExample : Type 0 where
  pub journal : List String
  pub ticks : ℕ
  pub says : List String
  pub image : List String

unfoldable pub ran_through : Option ℕ → Bool
ran_through none = true
ran_through (some n) = false

module _ (M : Machine) (begin : ℕ → List ℕ → M.S) where
  -- what a text was restored to is saved as that text (none: it was refused)
  unfoldable pub saves : Option M.S → List ℕ → Bool
  saves none t = false
  saves (some s) t = sames (M.encode s) t

  -- the state is saved as this text, and so is what the text is restored to
  unfoldable pub pictured : List String → M.S → Bool
  pictured [] s = true
  pictured (l ∷ ls) s =
      sames (M.encode s) (each codes (l ∷ ls)) && saves (M.decode (each codes (l ∷ ls))) (each codes (l ∷ ls))

  unfoldable pub replayed : FullExample → Replayed M.S
  replayed r =
      replay M (λ i. answer_room) (begin opcode_in_full prefix_in_full)
      (each codes r.journal ++ ticks_text r.ticks (suc (length r.journal)))

  -- replay of the journal runs through, writes these lines, and ends at a state of this image, which is restored
  unfoldable pub told_right : FullExample → Bool
  told_right r =
      ran_through (replayed r).stop && sames (each answer_lines (replayed r).answers) (each codes r.says)
      && pictured r.image (replayed r).state

-- P1: the fresh image; the session with its answers and its image; 29 ticks; the 30th
unfoldable pub in_full : List FullExample
in_full =
    record { journal = []; ticks = 0; says = []; image = fresh_image } ∷
    record { journal = frames_in_full; ticks = 0; says = answers_in_full; image = image_in_full } ∷
    record { journal = frames_in_full; ticks = 29; says = answers_in_full; image = [] } ∷
    record { journal = frames_in_full; ticks = 30; says = answers_in_full ++ stop_in_full; image = [] } ∷ []
