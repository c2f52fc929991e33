-- The laws of images for the engines over models and over blocks, in the form that a session asks of an engine.
-- Document 01, The image and Sessions and failover. Assumes nothing.
use Rattle.std.specs.Prelude.{ℕ, ◌≤◌, ◌≡◌, true, List, length}
use Rattle.std.proofs.Common.{ap}
use Rattle.std.proofs.Math.Option.{some}
use Rattle.laws.specs.Tests.{sames}
use Rattle.laws.specs.TestsLaws.{and_left, and_right, sames-eq}
use Rattle.sessions.specs.Machine.{core_room}
use Rattle.model.specs.Sound.{sound_model}
use Rattle.model.specs.Block.{padded, model_of, sound}
use Rattle.model.specs.Engine.{block_of, decode, engine, models}
use Rattle.images.specs.RestoresLaws.{restores}
use Rattle.images.specs.SizesLaws.{image-room}

-- a sound block holds a sound state and is that state's block
block-holds : (s : List ℕ) → sound s ≡ true → (sound_model (model_of s) ≡ true) × (padded (model_of s) ≡ s)
unfolding sound
block-holds s e =
    let a = sound_model (model_of s) in
    let b = sames (padded (model_of s)) s in
    (and_left a b e, sames-eq (padded (model_of s)) s (and_right a b e))

-- restoring what save writes gives the state that was saved
pub models-restore : (m : models.S) → models.sound m ≡ true → models.decode (models.encode m) ≡ some m
models-restore m e = restores m e

pub engine-restores : (s : engine.S) → engine.sound s ≡ true → engine.decode (engine.encode s) ≡ some s
unfolding decode block_of
engine-restores s e =
    let b = block-holds s e in
    rw (restores (model_of s) b.0) (ap some b.1)

-- what save writes fits what it is lent at least
pub models-room : (m : models.S) → models.sound m ≡ true → length (models.encode m) ≤ core_room
models-room m e = image-room m e

pub engine-room : (s : engine.S) → engine.sound s ≡ true → length (engine.encode s) ≤ core_room
engine-room s e = image-room (model_of s) (block-holds s e).0
