-- What a frame leaves in the block and in the lent output: the form that the contracts of commands, packets and ticks
-- cite. Document 01, Refusal numbers ("On success, octets past the written length stay as they were"); What the
-- promises owe ("an equation with a definition wherever these rules settle the result, else the free part by name and
-- what holds of it"). Assumes nothing.
use Rattle.std.specs.Prelude.{ℕ, ◌≤◌, ◌<◌, ◌≡◌, Bool, true, false, ◌&&◌, List, length, drop}
use Rattle.laws.specs.Put.{put}
use Rattle.sessions.specs.Machine.{answer_room, last_number}
use Rattle.model.specs.Types.{Model}
use Rattle.model.specs.Frames.{Typed}
use Rattle.model.specs.Step.{step_typed, answer_typed}
use Rattle.model.specs.Sound.{sound_model}
use Rattle.model.specs.Block.{padded, ready}

-- The frame f took the block of the state m to `after`, and the output from `out` to `wrote`, n octets of it written.
pub record Stepped (m : Model) (f : Typed) (after out wrote : List ℕ) (n : ℕ) : Type 0 where
  pub block : after ≡ padded (step_typed m f)
  pub octets : wrote ≡ put out 0 (answer_typed m f)
  pub count : n ≡ length (answer_typed m f)

-- The same of the block s, whatever sound state below the last number it is of.
abbrev pub Steps : Typed → List ℕ → List ℕ → List ℕ → List ℕ → ℕ → Type 0
Steps f s after out wrote n =
    (m : Model) → sound_model m ≡ true → s ≡ padded m → m.position < last_number → Stepped m f after out wrote n

-- Nothing is changed and nothing written.
pub record Unmoved (s after out wrote : List ℕ) (n : ℕ) : Type 0 where
  pub block : after ≡ s
  pub octets : wrote ≡ out
  pub count : n ≡ 0

-- At most the lent octets are said to be written, and those past them are as they were.
pub record Within (out wrote : List ℕ) (n : ℕ) : Type 0 where
  pub count : n ≤ length out
  pub rest : drop n wrote ≡ drop n out

-- Of a block that is of no sound state the octets of the block, the first n octets of the output and n are free. This
-- holds of them.
pub record Free (s after out wrote : List ℕ) (n : ℕ) : Type 0 where
  pub block : length after ≡ length s
  pub output : length wrote ≡ length out
  pub within : Within out wrote n

-- What a frame owes on any block and any output, `form` being whether its payload has the form of its kind: the
-- model's step of the block of a sound state; nothing at all where the frame may not be taken or has another form;
-- and on every block what is not free.
pub record Taken (f : Typed) (form : Bool) (s after out wrote : List ℕ) (n : ℕ) : Type 0 where
  pub stepped : (m : Model) → sound_model m ≡ true → s ≡ padded m → m.position < last_number → answer_room ≤ length out
      → form ≡ true → Stepped m f after out wrote n
  pub unmoved : (ready s out && form) ≡ false → Unmoved s after out wrote n
  pub free : Free s after out wrote n
