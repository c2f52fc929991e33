-- The engine of document 01 as a machine of the crate sessions: its state is the block of octets.
use Rattle.std.specs.Prelude.{ℕ, Bool, true, false, List}
use Rattle.std.proofs.Math.Option.{Option, none, some}
use Rattle.laws.specs.Tests.{pick}
use Rattle.sessions.specs.Machine.{Machine, Outcome, refused, done}
use Rattle.model.specs.Types.{Model, fresh, blank}
use Rattle.model.specs.Frames.{Body, read, write}
use Rattle.model.specs.Step.{act}
use Rattle.model.specs.Sound.{sound_settings, sound_model}
use Rattle.model.specs.Image.{image_text, read_image, held_in}
use Rattle.model.specs.Block.{model_of, padded, sound}

-- an outcome on models, as an outcome on blocks
unfoldable pub on_blocks : Outcome Model → Outcome (List ℕ)
on_blocks (refused n) = refused n
on_blocks (done m wrote) = done (padded m) wrote

-- what a frame does to a block
unfoldable pub act_block : List ℕ → Body → Outcome (List ℕ)
act_block s b = on_blocks (act (model_of s) b)

-- a restored state as a block
unfoldable pub block_of : Option Model → Option (List ℕ)
block_of none = none
block_of (some m) = some (padded m)

unfoldable pub decode : List ℕ → Option (List ℕ)
decode t = block_of (read_image t)

-- the block that a text gives, being an image or not: "9 and 10 return the blank state"
unfoldable pub block_in : Bool → List ℕ → List ℕ
block_in true t = padded (held_in t)
block_in false t = padded blank

abbrev pub engine : Machine
engine =
    record {
      S = List ℕ;
      Body = Body;
      pos = λ s. (model_of s).position;
      sound = sound;
      read = read;
      write = write;
      act = act_block;
      encode = λ s. image_text (model_of s);
      decode = decode;
    }

-- the same over models, for examples and for laws that need no block
abbrev pub models : Machine
models =
    record {
      S = Model;
      Body = Body;
      pos = λ m. m.position;
      sound = sound_model;
      read = read;
      write = write;
      act = act;
      encode = image_text;
      decode = read_image;
    }

-- Settings: the fresh state's block, or the blank state's with refusal 9
unfoldable pub begin : ℕ → List ℕ → List ℕ
begin opcode prefix = pick (sound_settings opcode prefix) (padded (fresh opcode prefix)) (padded blank)
