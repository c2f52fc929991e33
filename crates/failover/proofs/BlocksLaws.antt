-- The engine over whole blocks is the engine with editions over records: the laws of Laid for the block that the
-- calls' contracts cite. So what is shown over records holds of the calls. Document 01, The image; document 02, T-02,
-- T-12. Definitions of the proofs alone stand here too: place, text. Assumes nothing.
use Rattle.std.specs.Prelude.{ℕ, ◌≡◌, refl, Bool, true, not, List}
use Rattle.std.proofs.Common.{ap, ◌∙◌}
use Rattle.laws.specs.TestsLaws.{pick_true}
use Rattle.sessions.specs.Machine.{Form, Outcome, refused, done}
use Rattle.sessions.specs.Session.{Call, refuse_if, state_after, answer, image, after, ran, walk, trace}
use Rattle.sessions.specs.Saved.{replay}
use Rattle.model.specs.Types.{Model}
use Rattle.model.specs.Frames.{Body}
use Rattle.model.specs.Sound.{sound_settings}
use Rattle.model.specs.Block.{model_of}
use Rattle.replays.specs.Into.{replay_while}
use Rattle.editions.specs.Editions.{Edition, Gateway, sound_gateway, act_on, add_edition, image_on, fresh_on}
use Rattle.editions.specs.Engine.{gateways}
use Rattle.wholes.specs.Whole.{held_whole, whole, sound_whole}
use Rattle.wholes.proofs.LaidLaws.{held_whole_lem, core-whole, sound-whole}
use Rattle.wholes.specs.Engine.{engine, begin, act_whole, add_whole, on_wholes, decode}
use Rattle.failover.proofs.Proved.{laws}
use Rattle.failover.proofs.LaidLaws as laid
use Rattle.failover.proofs.LaidLaws.{Lays, onto, on_replayed, on_reached}

pub onto-wholes : (o : Outcome Gateway) → on_wholes o ≡ onto whole o
unfolding on_wholes onto
onto-wholes (refused n) = refl
onto-wholes (done m a) = refl

-- a block's position, and its image
abbrev pub place : List ℕ → ℕ
place s = (model_of s).position

abbrev pub text : List ℕ → List ℕ
text s = image_on (held_whole s)

pub lays : Lays gateways whole place sound_whole act_whole text
unfolding act_whole
lays =
    record {
      sounds = sound-whole;
      stands = λ g ok. ap (λ (m : Model). m.position) (core-whole g ok);
      does = λ g ok b. ap (λ (k : Gateway). on_wholes (act_on k b)) (held_whole_lem g ok) ∙ onto-wholes (act_on g b);
      codes = λ g ok. ap image_on (held_whole_lem g ok);
    }

module _ (m : Gateway) (ok : sound_gateway m ≡ true) where
  -- what is answered to a frame, to a save
  pub answer-blocks : (lent : ℕ) (w : Form) (r : List ℕ)
      → answer engine lent (whole m) w r ≡ onto whole (answer gateways lent m w r)
  answer-blocks = laid.answer-blocks gateways laws whole place sound_whole act_whole text decode lays m ok

  pub image-blocks : (lent : ℕ) → image engine lent (whole m) ≡ onto whole (image gateways lent m)
  image-blocks = laid.image-blocks gateways laws whole place sound_whole act_whole text decode lays m ok

  -- a call, a session: the state at its end, the executed frames and their answers
  pub call-blocks : (c : Call) → after engine (whole m) c ≡ whole (after gateways m c)
  call-blocks = laid.call-blocks gateways laws whole place sound_whole act_whole text decode lays m ok

  pub call-sound : (c : Call) → sound_gateway (after gateways m c) ≡ true
  call-sound = laid.call-sound gateways laws whole place sound_whole act_whole text decode lays m ok

  pub ran-blocks : (c : Call) → ran engine (whole m) c ≡ ran gateways m c
  ran-blocks = laid.ran-blocks gateways laws whole place sound_whole act_whole text decode lays m ok

  pub walk-blocks : (cs : List Call) → walk engine (whole m) cs ≡ whole (walk gateways m cs)
  walk-blocks = laid.walk-blocks gateways laws whole place sound_whole act_whole text decode lays m ok

  pub trace-blocks : (cs : List Call) → trace engine (whole m) cs ≡ trace gateways m cs
  trace-blocks = laid.trace-blocks gateways laws whole place sound_whole act_whole text decode lays m ok

  -- what a frame in either form leaves
  pub given-blocks : (lent : ℕ) (w : Form) (r : List ℕ)
      → state_after (whole m) (answer engine lent (whole m) w r) ≡ whole (state_after m (answer gateways lent m w r))
  given-blocks = laid.given-blocks gateways laws whole place sound_whole act_whole text decode lays m ok

  pub given-sound : (lent : ℕ) (w : Form) (r : List ℕ)
      → sound_gateway (state_after m (answer gateways lent m w r)) ≡ true
  given-sound = laid.given-sound gateways laws whole place sound_whole act_whole text decode lays m ok

-- a replay, of the claims and of the call
pub replay-blocks : (lent : ℕ → ℕ) (m : Gateway) → sound_gateway m ≡ true → (t : List ℕ)
    → replay engine lent (whole m) t ≡ on_replayed whole (replay gateways lent m t)
replay-blocks = laid.replay-blocks gateways laws whole place sound_whole act_whole text decode lays

pub replays-blocks : (room : ℕ) (goes : ℕ → Bool) (m : Gateway) → sound_gateway m ≡ true → (t : List ℕ)
    → replay_while engine goes room (whole m) t ≡ on_reached whole (replay_while gateways goes room m t)
replays-blocks = laid.replays-blocks gateways laws whole place sound_whole act_whole text decode lays

pub replays-sound : (room : ℕ) (goes : ℕ → Bool) (m : Gateway) → sound_gateway m ≡ true → (t : List ℕ)
    → sound_gateway (replay_while gateways goes room m t).state ≡ true
replays-sound = laid.replays-sound gateways laws whole place sound_whole act_whole text decode lays

-- an addition, and what an outcome leaves
pub add-blocks : (m : Gateway) → sound_gateway m ≡ true → (e : Edition)
    → add_whole (whole m) e ≡ onto whole (add_edition m e)
unfolding add_whole refuse_if
add-blocks m ok e =
    ap (λ (b : Bool). refuse_if (not b) 7 (on_wholes (add_edition (held_whole (whole m)) e))) (sound-whole m ok)
    ∙ ap (λ (k : Gateway). on_wholes (add_edition k e)) (held_whole_lem m ok) ∙ onto-wholes (add_edition m e)

pub after-blocks : (m : Gateway) (o : Outcome Gateway) → state_after (whole m) (onto whole o) ≡ whole (state_after m o)
after-blocks = laid.after-blocks gateways laws whole place sound_whole act_whole text decode lays

-- a sound state's image
pub encode-blocks : (m : Gateway) → sound_gateway m ≡ true → engine.encode (whole m) ≡ image_on m
encode-blocks m ok = ap image_on (held_whole_lem m ok)

-- the block that a session in range begins with
pub begin-blocks : (opcode : ℕ) (prefix : List ℕ) → sound_settings opcode prefix ≡ true
    → begin opcode prefix ≡ whole (fresh_on opcode prefix)
unfolding begin
begin-blocks opcode prefix ok = pick_true (whole (fresh_on opcode prefix)) _ ok
