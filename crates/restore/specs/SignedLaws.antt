-- A window's sum is signed: 8 octets, two's complement (document 01, The image, "sum from −127 × packets to 20 ×
-- packets"; all numbers are little-endian, RSSI is signed). An image with one packet at −60 in a window is restored,
-- and its sum is −60.
use Rattle.std.specs.Prelude.{ℕ, ◌≡◌, refl, true, List, [], ◌∷◌, map, pos, neg_ℤ}
use Prim.Native.String.{String}
use Rattle.laws.specs.Loops.{each}
use Rattle.model.specs.Types.{Pair}
use Rattle.model.specs.Level.{signed}
use Rattle.model.specs.Image.{held_in, is_image}
use Rattle.model.specs.Quoted.{codes}

-- the monitor of "A session in full" with a window of 2 ticks, and its pair with a packet at −60 in the window
unfoldable pub minus_sixty : List String
minus_sixty =
    "A002000000001EFC024D53\n" ∷ "A100C4B00302040700060504030201\n" ∷
    "A3000006050403020100000101000000C4FFFFFFFFFFFFFFC40303020106\n" ∷ "AF0101\n" ∷ []

-- It is restored; its sum is −60, in two's complement.
pub sum-signed : (is_image (each codes minus_sixty) ≡ true)
    × (map (λ (q : Pair). q.sum) (held_in (each codes minus_sixty)).pairs ≡ 18446744073709551556 ∷ [])
    × (map (λ (q : Pair). signed q.sum) (held_in (each codes minus_sixty)).pairs ≡ neg_ℤ (pos 60) ∷ [])
unfolding minus_sixty codes Rattle.model.specs.Computed.computed
sum-signed = (refl, refl, refl)
