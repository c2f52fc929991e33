-- When a whole block is sound, and which texts are images with editions, told by the block that their lines were
-- stored in: exactly those that save writes. Document 01, The image; Refusal numbers, 10; document 02, T-12. Assumes
-- nothing.
use Rattle.std.specs.Prelude.{ℕ, ◌≡◌, Bool, true, ◌&&◌, List, eqb, length}
use Rattle.laws.specs.Tests.{pick}
use Rattle.editions.specs.Editions.{held_on, is_image_on}
use Rattle.wholes.specs.Layout.{whole_size}
use Rattle.wholes.specs.Whole.{whole}
use Rattle.wholes.specs.Engine.{block_in}

abbrev pub ReadOn : List ℕ → List ℕ → Bool → Type 0
ReadOn t after r = (r ≡ is_image_on t) × (is_image_on t ≡ true → after ≡ whole (held_on t))

-- what restore answers and leaves
unfoldable pub restores_on : List ℕ → ℕ → Bool
restores_on t n = eqb n whole_size && is_image_on t

unfoldable pub restored_on : List ℕ → List ℕ → List ℕ
restored_on t s = pick (eqb (length s) whole_size) (block_in (is_image_on t) t) s
