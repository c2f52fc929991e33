-- What the index says, by the pairs alone: the mask of a device has the bit of a handle exactly where the pair of
-- both is held, its handles are those that hold it, lowest first, and the devices stand in the order of their first
-- held pair. Document 02, T-02: "a 16-bit mask of the handles that have it under watch"; "devices in the order of
-- their first held pair". Assumes nothing.
use Rattle.std.specs.Prelude.{ℕ, ◌/◌, ◌%◌, ◌^◌, Bool, List, [], ◌∷◌, eqb}
use Rattle.laws.specs.Tests.{pick, sames}
use Rattle.wholes.specs.Index.{IndexEntry}

-- whether a mask has the bit of a handle
unfoldable pub has_bit : ℕ → ℕ → Bool
has_bit h m = eqb (m / 2 ^ h % 2) 1

-- the mask of the first entry of a device, 0 where it has none
unfoldable pub mask_of : List ℕ → List IndexEntry → ℕ
mask_of d [] = 0
mask_of d (e ∷ es) = pick (sames e.device d) e.mask (mask_of d es)
