-- The steps are taken on the core of a block; the laws of failover/LaidLaws for it. Document 01, The image. Assumes
-- nothing.
use Rattle.std.specs.Prelude.{ℕ, ◌≡◌, refl, Bool, true, List}
use Rattle.std.proofs.Common.{ap, ◌∙◌}
use Rattle.std.proofs.Math.Option.{Option}
use Rattle.sessions.specs.Machine.{Line, Outcome, refused, done}
use Rattle.sessions.specs.Session.{judge}
use Rattle.model.specs.Types.{Model}
use Rattle.model.specs.Frames.{Body}
use Rattle.model.specs.Step.{act}
use Rattle.model.specs.Image.{image_text}
use Rattle.model.specs.Sound.{sound_model}
use Rattle.model.specs.Block.{model_of, padded, sound}
use Rattle.model.specs.Engine.{engine as cores, models, act_block, on_blocks, decode}
use Rattle.blocks.specs.BlockLaws.{held-padded, sound-padded}
use Rattle.failover.proofs.LaidLaws as laid
use Rattle.failover.proofs.LaidLaws.{Lays, onto}
use Rattle.failover.proofs.ProofLaws.{laws}

does : (s : List ℕ) (b : Body) → act_block s b ≡ onto padded (act (model_of s) b)
unfolding act_block on_blocks onto
does s b = go (act (model_of s) b)
  where
    go : (o : Outcome Model) → on_blocks o ≡ onto padded o
    go (refused n) = refl
    go (done m a) = refl

place : List ℕ → ℕ
place s = (model_of s).position

text : List ℕ → List ℕ
text s = image_text (model_of s)

lays : Lays models padded place sound act_block text
unfolding place text
lays =
    record {
      sounds = sound-padded;
      stands = λ m ok. ap (λ (k : Model). k.position) (held-padded m ok);
      does = λ m ok b. does (padded m) b ∙ ap (λ (k : Model). onto padded (act k b)) (held-padded m ok);
      codes = λ m ok. ap image_text (held-padded m ok);
    }

pub judge-cores : (m : Model) → sound_model m ≡ true → (x : Option (Line Body))
    → judge cores (padded m) x ≡ onto padded (judge models m x)
unfolding place text
judge-cores m ok = laid.judge-blocks models laws padded place sound act_block text decode lays m ok
