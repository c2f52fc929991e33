-- The laws of one step as sessions ask them, of the machine over models: a frame that was given and read has a payload
-- of octets, so executing it moves the position by one, keeps the state sound and writes at most 2,880 octets.
-- Document 01, Lines, The image (Sound) and Sizes of the gateway. Assumes nothing.
use Rattle.std.specs.Prelude.{ℕ, suc, ◌≤◌, ◌≡◌, Bool, true, false, ◌&&◌, List, length}
use Rattle.std.proofs.Common.{sym, ◌∙◌, subst}
use Rattle.std.proofs.Math.Option.{none, some}
use Rattle.laws.specs.Tests.{pick}
use Rattle.laws.specs.TestsLaws.{and_left}
use Rattle.laws.specs.Loops.{every}
use Rattle.laws.specs.LoopsLaws.{every_drop}
use Rattle.octets.specs.Little.{is_octet}
use Rattle.lines.specs.Hex.{is_text, octets_in}
use Rattle.lines.specs.Frame.{is_frame}
use Rattle.rule.specs.BaseLaws.{none≢some}
use Rattle.sessions.specs.Machine.{Form, octets, text, Line, Executes, answer_room}
use Rattle.model.specs.Types.{Model}
use Rattle.model.specs.Frames.{Body, frame_of, read_raw, read}
use Rattle.model.specs.Sound.{sound_model}
use Rattle.model.specs.Engine.{models}
use Rattle.steps.specs.ListsLaws.{picked}
use Rattle.steps.specs.ExecutedLaws.{position-suc}
use Rattle.steps.proofs.KeepsLaws.{keeps}
use Rattle.steps.proofs.AnswersLaws.{answer-fits, answer-octets}

-- what was read has a payload of octets
pub raw-payload : (raw : List ℕ) (x : Line Body) → read_raw raw ≡ some x → every is_octet x.body.payload ≡ true
unfolding read_raw frame_of
raw-payload raw x e =
    let w = picked (every is_octet raw && is_frame raw) (frame_of raw) x e in
    let o : every is_octet raw ≡ true = and_left (every is_octet raw) (is_frame raw) w.0 in
    subst (λ y. every is_octet y.body.payload ≡ true) w.1 (every_drop is_octet 5 raw o)

pub read-payload : (w : Form) (raw : List ℕ) (x : Line Body) → read w raw ≡ some x
    → every is_octet x.body.payload ≡ true
unfolding read pick
read-payload octets raw x e = raw-payload raw x e
read-payload text t x e = go (is_text t) e
  where
    go : (b : Bool) → pick b (read_raw (octets_in t)) none ≡ some x → every is_octet x.body.payload ≡ true
    go true u = raw-payload (octets_in t) x u
    go false u = absurd (none≢some u)

module _ (s t : Model) (x : Line Body) (wrote : List ℕ) (e : Executes models s x t wrote) where
  payload : every is_octet x.body.payload ≡ true
  payload = read-payload e.form e.raw x e.given

  -- "The position is the number of the last executed frame."
  pub given-advance : t.position ≡ suc s.position
  given-advance = position-suc s t x.body wrote e.acts

  pub given-numbered : t.position ≡ x.num
  given-numbered = given-advance ∙ sym e.next

  pub given-keeps : sound_model t ≡ true
  given-keeps = keeps s t x.body wrote e.before e.room payload e.acts

  pub given-fits : length wrote ≤ answer_room
  given-fits = answer-fits s t x.body wrote e.before payload e.acts

  pub given-octets : every is_octet wrote ≡ true
  given-octets = answer-octets s t x.body wrote e.before payload e.acts
