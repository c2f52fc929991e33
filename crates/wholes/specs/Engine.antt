-- The engine over whole blocks, as a machine of the crate sessions: what the calls' contracts cite. It differs from
-- the one over records (crate editions, Engine) by the index alone: a frame, an addition, a start and a restore leave
-- the whole block of the state, and a block with another index is not sound. Document 02, T-02, T-12.
use Rattle.std.specs.Prelude.{ℕ, Bool, true, false, not, List, []}
use Rattle.std.proofs.Math.Option.{Option, none, some}
use Rattle.laws.specs.Tests.{pick}
use Rattle.sessions.specs.Machine.{Machine, Outcome, refused, done}
use Rattle.sessions.specs.Session.{refuse_if}
use Rattle.model.specs.Frames.{Body, read, write}
use Rattle.model.specs.Sound.{sound_settings}
use Rattle.model.specs.Block.{model_of}
use Rattle.editions.specs.Editions.{Edition, Gateway, fresh_on, act_on, add_edition, image_on, held_on, read_on}
use Rattle.wholes.specs.Whole.{held_whole, laid_with, sound_with, whole, sound_whole}

-- the blank state: fresh, opcode 0xFC00, empty prefix
unfoldable pub blank_on : Gateway
blank_on = fresh_on 0xFC00 []

-- an outcome on records, as an outcome on blocks with an index x, and on whole blocks
unfoldable pub on_with : List ℕ → Outcome Gateway → Outcome (List ℕ)
on_with x (refused n) = refused n
on_with x (done g wrote) = done (laid_with x g) wrote

unfoldable pub on_wholes : Outcome Gateway → Outcome (List ℕ)
on_wholes (refused n) = refused n
on_wholes (done g wrote) = done (whole g) wrote

-- what a frame does to a block
unfoldable pub act_with : List ℕ → List ℕ → Body → Outcome (List ℕ)
act_with x s b = on_with x (act_on (held_whole s) b)

unfoldable pub act_whole : List ℕ → Body → Outcome (List ℕ)
act_whole s b = on_wholes (act_on (held_whole s) b)

-- what an addition does to it: refusals 7, 15, 14, 13
unfoldable pub add_whole : List ℕ → Edition → Outcome (List ℕ)
add_whole s e = refuse_if (not (sound_whole s)) 7 (on_wholes (add_edition (held_whole s) e))

-- a restored state as a whole block
unfoldable pub whole_of : Option Gateway → Option (List ℕ)
whole_of none = none
whole_of (some g) = some (whole g)

unfoldable pub decode : List ℕ → Option (List ℕ)
decode t = whole_of (read_on t)

-- the block that a text gives, being an image or not: "9 and 10 return the blank state"
unfoldable pub block_in : Bool → List ℕ → List ℕ
block_in true t = whole (held_on t)
block_in false t = whole blank_on

abbrev pub engine : Machine
engine =
    record {
      S = List ℕ;
      Body = Body;
      pos = λ s. (model_of s).position;
      sound = sound_whole;
      read = read;
      write = write;
      act = act_whole;
      encode = λ s. image_on (held_whole s);
      decode = decode;
    }

-- the same with an index x that no frame moves: a replay works the index out once, at its end
abbrev pub with_index : List ℕ → Machine
with_index x =
    record {
      S = List ℕ;
      Body = Body;
      pos = λ s. (model_of s).position;
      sound = sound_with x;
      read = read;
      write = write;
      act = act_with x;
      encode = λ s. image_on (held_whole s);
      decode = decode;
    }

-- Settings: the fresh state's whole block, or the blank state's with refusal 9
unfoldable pub begin : ℕ → List ℕ → List ℕ
begin opcode prefix = pick (sound_settings opcode prefix) (whole (fresh_on opcode prefix)) (whole blank_on)
