-- The longest image: a sound state whose image has 10,698 characters, so that no shorter output would do. Document
-- 01, Sizes of the gateway; document 02, T-13. 16 monitors of version 2 with conditions of 64 octets, 64 pairs with
-- data of 31 octets, a prefix of 32. Assumes nothing.
use Rattle.std.specs.Prelude.{ℕ, zero, suc, ◌≡◌, refl, true, List, [], ◌∷◌, length, replicate}
use Rattle.std.proofs.Common.{◌∙◌}
use Rattle.std.proofs.Math.Option.{some}
use Rattle.model.specs.Types.{Model, Monitor, Pair}
use Rattle.model.specs.Sound.{sound_model}
use Rattle.model.specs.Image.{image_text}
use Rattle.images.specs.SizesLaws.{total, line_length, head_length, monitor_length, pair_length, end_length, image_length}
use Rattle.images.specs.SizesLaws.{image-length}
use Rattle.sessions.specs.Machine.{core_room}
use Rattle.model.specs.Layout.{irk_size, most_data, most_monitors, most_pairs, most_prefix}

-- a monitor with one pattern of 60 octets, of version 2
unfoldable pub long_monitor : Monitor
long_monitor =
    record {
      high = 0xC4;
      low = 0xB0;
      interval = 60;
      sampling = 1;
      condition_type = 1;
      condition = 1 ∷ 62 ∷ 0xFF ∷ 0 ∷ replicate 60 0xAA;
      extra = some (0x21 ∷ 0x02 ∷ 6 ∷ 5 ∷ 4 ∷ 3 ∷ 2 ∷ 1 ∷ 1 ∷ replicate irk_size 0x9B);
    }

-- n monitors, handles from h on
unfoldable pub long_monitors : ℕ → ℕ → List (ℕ × Monitor)
long_monitors zero h = []
long_monitors (suc n) h = (h, long_monitor) ∷ long_monitors n (suc h)

-- a pair of the device with this first octet, with one packet at −60 in its window
unfoldable pub long_pair : ℕ → Pair
long_pair d =
    record {
      handle = 0;
      address_type = 0;
      address = d ∷ replicate 5 0;
      since_good = 0;
      ticks = 0;
      packets = 1;
      sum = 18446744073709551556;
      kept = 0xC4;
      event = 3;
      adv = replicate most_data 0x11;
    }

-- n pairs, devices from d on
unfoldable pub long_pairs : ℕ → ℕ → List Pair
long_pairs zero d = []
long_pairs (suc n) d = long_pair d ∷ long_pairs n (suc d)

unfoldable pub longest : Model
longest =
    record {
      position = 66;
      filter = 1;
      opcode = 0xFC1E;
      prefix = replicate most_prefix 0x4D;
      mons = long_monitors most_monitors 0;
      pairs = long_pairs most_pairs 0;
    }

pub longest-sound : sound_model longest ≡ true
unfolding long_monitor long_monitors long_pair long_pairs longest Rattle.model.specs.Computed.computed
longest-sound = refl

-- The bound is reached.
pub longest-length : length (image_text longest) ≡ core_room
unfolding long_monitor long_monitors long_pair long_pairs longest
    total line_length head_length monitor_length pair_length end_length image_length Rattle.model.specs.Image.extra_text
longest-length = image-length longest longest-sound ∙ refl
