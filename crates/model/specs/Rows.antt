-- Rows: settings, frames given one after another as octets, and what each is answered, octets written or a refusal
-- number; with the frames and answers that rows share. The expected octets are the documents' own, or follow from
-- their rules by hand.
use Rattle.std.specs.Prelude.{ℕ, zero, suc, ◌+◌, ◌≡◌, refl, Bool, true, false, ◌&&◌, List, [], ◌∷◌, ◌++◌, eqb, length, replicate}
use Rattle.std.proofs.Math.Option.{Option, none, some}
use Rattle.laws.specs.Tests.{pick, sames}
use Rattle.laws.specs.Loops.{every, some as some_of, keep, only, each, when}
use Rattle.octets.specs.Little.{little, octets_of}
use Rattle.lines.specs.Hex.{digit, hex_of, text_of}
use Rattle.sessions.specs.Machine.{Machine, Outcome, refused, done, octets, answer_room}
use Rattle.sessions.specs.Session.{answer, state_after}
use Rattle.model.specs.Types.{fresh}
use Rattle.model.specs.Engine.{models}
use Rattle.model.specs.InFull.{FullExample, told_right, in_full}

-- what a frame was answered: octets, or a refusal
pub data Reply : Type 0 where
  wrote : List ℕ → Reply
  refusal : ℕ → Reply

unfoldable pub reply_of : {S : Type 0} → Outcome S → Reply
reply_of (refused n) = refusal n
reply_of (done m l) = wrote l

unfoldable pub same : Reply → Reply → Bool
same (wrote l) (wrote k) = sames l k
same (wrote l) (refusal n) = false
same (refusal n) (wrote l) = false
same (refusal n) (refusal k) = eqb n k

-- a row: settings, frames, what each is answered, and the lines of the image at the end (none: not compared)
pub record Example : Type 0 where
  pub opcode : ℕ
  pub prefix : List ℕ
  pub frames : List (List ℕ)
  pub replies : List Reply
  pub image : List (List ℕ)

unfoldable pub imaged : List (List ℕ) → List ℕ → Bool
imaged [] t = true
imaged (l ∷ ls) t = sames t (each text_of (l ∷ ls))

-- over an engine and the state that it begins with
module _ (M : Machine) (begin : ℕ → List ℕ → M.S) where
  -- the frames given one after another, with 2,880 octets lent each, and their replies compared
  unfoldable pub answered : M.S → List (List ℕ) → List Reply → Bool
  answered s [] [] = true
  answered s [] (r ∷ rs) = false
  answered s (f ∷ fs) [] = false
  answered s (f ∷ fs) (r ∷ rs) =
      same (reply_of (answer M answer_room s octets f)) r
      && answered (state_after s (answer M answer_room s octets f)) fs rs

  unfoldable pub reached : M.S → List (List ℕ) → M.S
  reached s [] = s
  reached s (f ∷ fs) = reached (state_after s (answer M answer_room s octets f)) fs

  unfoldable pub right : Example → Bool
  right r =
      answered (begin r.opcode r.prefix) r.frames r.replies
      && imaged r.image (M.encode (reached (begin r.opcode r.prefix) r.frames))

  -- all rows: the session in its own text, and the others
  unfoldable pub all_right : List FullExample → List Example → Bool
  all_right ts rs = every (told_right M begin) ts && every right rs

-- frames: a command, a packet of the device 06 05 04 03 02 01 with no data, a packet with data, a tick; and ticks in
-- a row
unfoldable pub cmd : ℕ → List ℕ → List ℕ
cmd n l = 1 ∷ (octets_of 4 n ++ (octets_of 2 0xFC1E ++ (length l ∷ l)))

unfoldable pub pkt : ℕ → ℕ → List ℕ
pkt n rssi = 2 ∷ (octets_of 4 n ++ (0 ∷ 0 ∷ 6 ∷ 5 ∷ 4 ∷ 3 ∷ 2 ∷ 1 ∷ 0 ∷ rssi ∷ []))

unfoldable pub adv : ℕ → List ℕ → ℕ → List ℕ
adv n l rssi = 2 ∷ (octets_of 4 n ++ (0 ∷ 0 ∷ 6 ∷ 5 ∷ 4 ∷ 3 ∷ 2 ∷ 1 ∷ length l ∷ (l ++ (rssi ∷ []))))

unfoldable pub tck : ℕ → List ℕ
tck n = 3 ∷ octets_of 4 n

unfoldable pub tcks : ℕ → ℕ → List (List ℕ)
tcks zero n = []
tcks (suc k) n = tck n ∷ tcks k (suc n)

-- silent ticks: nothing is written
unfoldable pub quiet : ℕ → List Reply
quiet k = replicate k (wrote [])

-- the monitor of "A session in full": high −60, low −80, 3 s, sampling 0, that address
unfoldable pub add_watch : List ℕ
add_watch = 0x03 ∷ 0xC4 ∷ 0xB0 ∷ 0x03 ∷ 0x00 ∷ 0x04 ∷ 0x00 ∷ 0x06 ∷ 0x05 ∷ 0x04 ∷ 0x03 ∷ 0x02 ∷ 0x01 ∷ []

-- its answer, and the events and the report of a start, of a packet at −60
unfoldable pub added0 : List ℕ
added0 = 0x0E ∷ 0x06 ∷ 0x01 ∷ 0x1E ∷ 0xFC ∷ 0x00 ∷ 0x03 ∷ 0x00 ∷ []

unfoldable pub start0 : List ℕ
start0 = 0xFF ∷ 0x0C ∷ 0x4D ∷ 0x53 ∷ 0x02 ∷ 0x00 ∷ 0x06 ∷ 0x05 ∷ 0x04 ∷ 0x03 ∷ 0x02 ∷ 0x01 ∷ 0x00 ∷ 0x01 ∷ []

unfoldable pub stop0 : List ℕ
stop0 = 0xFF ∷ 0x0C ∷ 0x4D ∷ 0x53 ∷ 0x02 ∷ 0x00 ∷ 0x06 ∷ 0x05 ∷ 0x04 ∷ 0x03 ∷ 0x02 ∷ 0x01 ∷ 0x00 ∷ 0x00 ∷ []

unfoldable pub report60 : List ℕ
report60 = 0x3E ∷ 0x0C ∷ 0x02 ∷ 0x01 ∷ 0x00 ∷ 0x00 ∷ 0x06 ∷ 0x05 ∷ 0x04 ∷ 0x03 ∷ 0x02 ∷ 0x01 ∷ 0x00 ∷ 0xC4 ∷ []

-- the session: settings 0xFC1E and 4D 53
unfoldable pub session : List (List ℕ) → List Reply → List (List ℕ) → Example
session frames replies image =
    record { opcode = 0xFC1E; prefix = 0x4D ∷ 0x53 ∷ []; frames = frames; replies = replies; image = image }

-- the filter switched on
unfoldable pub on : List ℕ
on = 0x05 ∷ 0x01 ∷ []

unfoldable pub on_answer : List ℕ
on_answer = 0x0E ∷ 0x05 ∷ 0x01 ∷ 0x1E ∷ 0xFC ∷ 0x00 ∷ 0x05 ∷ []

-- the same monitor with sampling 1, and with high 0 and −10
unfoldable pub add_sampled : List ℕ
add_sampled = 0x03 ∷ 0xC4 ∷ 0xB0 ∷ 0x03 ∷ 0x01 ∷ 0x04 ∷ 0x00 ∷ 0x06 ∷ 0x05 ∷ 0x04 ∷ 0x03 ∷ 0x02 ∷ 0x01 ∷ []

-- a monitor command refused as invalid
unfoldable pub invalid03 : List ℕ
invalid03 = 0x0E ∷ 0x06 ∷ 0x01 ∷ 0x1E ∷ 0xFC ∷ 0x12 ∷ 0x03 ∷ 0x00 ∷ []

unfoldable pub added1 : List ℕ
added1 = 0x0E ∷ 0x06 ∷ 0x01 ∷ 0x1E ∷ 0xFC ∷ 0x00 ∷ 0x03 ∷ 0x01 ∷ []

unfoldable pub added2 : List ℕ
added2 = 0x0E ∷ 0x06 ∷ 0x01 ∷ 0x1E ∷ 0xFC ∷ 0x00 ∷ 0x03 ∷ 0x02 ∷ []
