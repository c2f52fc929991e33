-- The branches of the options, and images read as far as their room. Assumes nothing.
use Rattle.std.specs.Prelude.{ℕ, ◌≡◌, List, length, take}
use Rattle.editions.specs.Editions.{is_image_on}
use Rattle.wholes.specs.Engine.{block_in}
use Rattle.engine.specs.declared.Restored.{Restored}
use Rattle.engine.specs.Public.{loaded_of}

-- What restoring octets read of a file answers: the room is filled, or the file ends before; so it is the file's state.
pub record Loads (text : List ℕ) (count : ℕ) (r : Restored) : Type 0 where
  pub says :
      (file : List ℕ) → take count text ≡ take (length text) file
      → (r.answer ≡ loaded_of (is_image_on file)) × (r.state.block ≡ block_in (is_image_on file) file)
