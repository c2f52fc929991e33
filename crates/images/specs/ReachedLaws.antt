-- The longest image in a session: "image 9,770", with T-05 9,898, with T-13 10,698, is reached by frames from a fresh
-- state, and no image is longer. Document 01, Sizes of the gateway. Assumes nothing.
use Rattle.std.specs.Prelude.{ℕ, zero, suc, ◌+◌, ◌≡◌, refl, true, List, [], ◌∷◌, ◌++◌, length, replicate}
use Rattle.std.proofs.Common.{◌∙◌}
use Rattle.octets.specs.Little.{octets_of}
use Rattle.sessions.specs.Machine.{core_room}
use Rattle.model.specs.Types.{Model, fresh}
use Rattle.model.specs.Sound.{sound_model}
use Rattle.model.specs.Image.{image_text}
use Rattle.model.specs.Engine.{models}
use Rattle.model.specs.Rows.{cmd, reached}
use Rattle.images.specs.SizesLaws.{total, line_length, head_length, monitor_length, pair_length, end_length, image_length}
use Rattle.images.specs.SizesLaws.{image-length}
use Rattle.model.specs.Layout.{address_size, irk_size, most_data, most_monitors, most_prefix}

-- The session: 16 monitors of version 2 with conditions of 64 octets in three patterns, of which the first matches;
-- four devices, each heard twice with 31 octets, so that 64 windows hold a packet.
unfoldable pub long_add : List ℕ
long_add =
    0x0F ∷ 0xC4 ∷ 0xB0 ∷ 60 ∷ 1 ∷ 0x20 ∷ 0x02 ∷ (replicate (address_size + 1) 1 ++ (replicate irk_size 0x9B ++ (1
    ∷ 3 ∷ 3 ∷ 0xFF ∷ 0 ∷ 0xAA ∷ 3 ∷ 0xFF ∷ 0 ∷ 0xAA ∷ 54 ∷ 0xFF ∷ 0 ∷ replicate 52 0xAA)))

unfoldable pub long_heard : ℕ → ℕ → List ℕ
long_heard n d = 2
    ∷ (octets_of 4 n ++ (3 ∷ 0 ∷ d ∷ 5 ∷ 4 ∷ 3 ∷ 2 ∷ 1 ∷ most_data ∷ 30 ∷ 0xFF ∷ (replicate 29 0xAA ++ (0xC4 ∷ []))))

unfoldable pub long_adds : ℕ → ℕ → List (List ℕ)
long_adds zero n = []
long_adds (suc k) n = cmd n long_add ∷ long_adds k (suc n)

unfoldable pub long_frames : List (List ℕ)
long_frames =
    long_adds most_monitors 1
    ++ (long_heard 17 0 ∷ long_heard 18 1 ∷ long_heard 19 2 ∷ long_heard 20 3 ∷ long_heard 21 0 ∷ long_heard 22 1
    ∷ long_heard 23 2
    ∷ long_heard 24 3 ∷ [])

unfoldable pub long_reached : Model
long_reached = reached models fresh (fresh 0xFC1E (replicate most_prefix 0x4D)) long_frames

-- it is sound, and its image is as long as lines can be
measured : (sound_model long_reached ≡ true) × (image_length long_reached ≡ core_room)
unfolding long_add long_heard long_adds long_frames long_reached total line_length head_length monitor_length pair_length
    end_length image_length Rattle.model.specs.Computed.computed
measured = (refl, refl)

-- No shorter output would do for its image (and none is longer: Sizes.image-most).
pub reached-length : (sound_model long_reached ≡ true) × (length (image_text long_reached) ≡ core_room)
reached-length = (measured.0, image-length long_reached measured.0 ∙ measured.1)
