-- What a sound state keeps to: the tests of `sound_model`, taken apart into named facts, and put together again.
-- Document 01, The image ("Sound: .."). Assumes nothing.
use Rattle.std.specs.Prelude.{ℕ, ◌≤◌, ◌<◌, ◌≡◌, true, List, length}
use Rattle.laws.specs.Loops.{every}
use Rattle.octets.specs.Little.{is_octet}
use Rattle.rule.specs.Base.{All}
use Rattle.rule.specs.Finds.{Rising}
use Rattle.model.specs.Types.{Model, Monitor}
use Rattle.model.specs.Monitors.{accepts}
use Rattle.model.specs.Sound.{sound_extra}
use Rattle.model.specs.Sound.{sound_pair, apart}
use Rattle.model.specs.Layout.{most_monitors, most_pairs, most_prefix}

-- "every monitor as 0x03 would accept it", or 0x0F
pub record SoundMonitor (m : Monitor) : Type 0 where
  pub accept : accepts m ≡ true
  pub high-octet : m.high < 256
  pub low-octet : m.low < 256
  pub sampling-octet : m.sampling < 256
  pub condition-octets : every is_octet m.condition ≡ true
  pub extra-sound : sound_extra m.extra ≡ true

-- "monitors held in rising handle order, handles 0 to 15"; each handle at least k
pub record SoundMonitors (k : ℕ) (l : List (ℕ × Monitor)) : Type 0 where
  pub rising : Rising l
  pub handles : All (λ x. (k ≤ x.0) × (x.0 < most_monitors)) l
  pub monitors : All (λ x. SoundMonitor x.1) l

-- the state
pub record SoundModel (m : Model) : Type 0 where
  pub position-most : m.position ≤ 4294967295
  pub filter-most : m.filter ≤ 1
  pub opcode-least : 0xFC00 ≤ m.opcode
  pub opcode-most : m.opcode ≤ 0xFFFF
  pub prefix-most : length m.prefix ≤ most_prefix
  pub prefix-octets : every is_octet m.prefix ≡ true
  pub mons-sound : SoundMonitors 0 m.mons
  pub pairs-most : length m.pairs ≤ most_pairs
  pub pairs-apart : apart m.pairs ≡ true
  pub pairs-sound : every (sound_pair m) m.pairs ≡ true
