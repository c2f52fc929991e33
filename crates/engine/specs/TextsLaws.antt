-- A frame given as its line is judged as its octets are. Document 01, Lines ("A frame may be given as octets or as
-- its line, with the same result"). Assumes nothing.
use Rattle.std.specs.Prelude.{ℕ, zero, suc, ◌+◌, ◌-◌, ◌≤◌, ◌<◌, ◌≡◌, refl, Bool, true, false, ◌&&◌, List, [], ◌∷◌, ◌++◌, leb, length, take, drop, Ok, Err}
use Rattle.std.proofs.Common.{sym, ap, ◌∙◌, zero-add, arith, leb-true, leb-false, length-drop, take_all}
use Rattle.std.proofs.lemmas.Bool.{false≢true, lt-leb}
use Rattle.std.proofs.Math.Option.{Option, none, some}
use Rattle.std.proofs.Math.Seq.{take-append_seam}
use Rattle.laws.specs.Put.{put}
use Rattle.laws.specs.PutLaws.{take_put}
use Rattle.laws.specs.Tests.{pick}
use Rattle.laws.specs.TestsLaws.{pick_true, pick-false, and_left, and_right, and-not-right}
use Rattle.laws.specs.Loops.{every}
use Rattle.octets.specs.Little.{is_octet}
use Rattle.lines.specs.Hex.{is_text, octets_in}
use Rattle.lines.specs.Frame.{is_frame, most_frame}
use Rattle.lines.specs.FrameLaws.{frame-most}
use Rattle.reader.specs.Answers.{take_text}
use Rattle.reader.specs.AnswersLaws.{take-read}
use Rattle.refusals.specs.declared.Refusal.{Refusal}
use Rattle.sessions.specs.Machine.{Outcome, refused, octets, text}
use Rattle.sessions.specs.Session.{judge}
use Rattle.model.specs.Frames.{frame_of, read_raw, read}
use Rattle.wholes.specs.Engine.{with_index}
use Rattle.engine.specs.Loose.{index_on}

-- a part of a slice to its end
pub tail : (l : List ℕ) (k : ℕ) → take (length l - k) (drop k l) ≡ drop k l
tail l k = take_all (length l - k) (drop k l) (simp length-drop (omega arith))

-- the octets that a text was read into
pub read-front : (out ys : List ℕ) (n : ℕ) → n ≡ length ys → take n (put out 0 ys) ≡ ys
read-front out ys n e = ap (λ (k : ℕ). take k (put out 0 ys)) e ∙ take_put out 0 ys (omega arith)

pub read_none : (raw : List ℕ) → is_frame raw ≡ false → read_raw raw ≡ none
unfolding read_raw
read_none raw e = pick-false (some (frame_of raw)) none (and-not-right (every is_octet raw) (is_frame raw) e)

pub long-frame : (raw : List ℕ) → most_frame < length raw → is_frame raw ≡ false
long-frame raw h = go (is_frame raw) refl
  where
    go : (t : Bool) → is_frame raw ≡ t → t ≡ false
    go false e = refl
    go true e = let b : length raw ≤ most_frame = frame-most raw e in absurd (omega arith)

-- a text that does not hold octets enough for a frame, or is none, is not read, and is refused by 4
pub text-none : (t : List ℕ) (n : ℕ) (x : Refusal) → take_text t n ≡ Err x → most_frame ≤ n → read text t ≡ none
unfolding take_text read
text-none t n x e h = go (is_text t) refl (leb (length (octets_in t)) n) refl e
  where
    go : (a : Bool) → is_text t ≡ a → (b : Bool) → leb (length (octets_in t)) n ≡ b
        → pick (a && b) (Ok (length (octets_in t)))
        (Err Rattle.refusals.specs.declared.Refusal.TheVariants.NotLine) ≡ Err x
        → pick a (read_raw (octets_in t)) none ≡ none
    go false p b q z = pick-false (read_raw (octets_in t)) none refl
    go true p false q z =
        pick_true (read_raw (octets_in t)) none refl
        ∙ read_none (octets_in t)
        (long-frame (octets_in t)
        (let g : n < length (octets_in t) = leb-false (length (octets_in t)) n q in omega arith))
    go true p true q z = let c : ◌≡◌ {A = ℕ} 0 1 =
        (clash (sym (pick_true (Ok (length (octets_in t)))
        (Err Rattle.refusals.specs.declared.Refusal.TheVariants.NotLine) refl) ∙ z)) in absurd (omega arith)
      where
        clash : Ok (length (octets_in t)) ≡ Err x → ◌≡◌ {A = ℕ} 0 1
        clash w = cc

pub line-unread : (s t : List ℕ) (n : ℕ) (x : Refusal) → take_text t n ≡ Err x → most_frame ≤ n
    → judge (with_index (index_on s)) s (read text t) ≡ refused 4
unfolding judge
line-unread s t n x e h = ap (judge (with_index (index_on s)) s) (text-none t n x e h)

-- a text that was read is judged as its octets
pub line_read : (s t : List ℕ) (n k : ℕ) → take_text t n ≡ Ok k
    → judge (with_index (index_on s)) s (read octets (octets_in t)) ≡ judge (with_index (index_on s)) s (read text t)
unfolding read
line_read s t n k e =
    ap (judge (with_index (index_on s)) s) (sym (pick_true (read_raw (octets_in t)) none (take-read t n k e).0))
