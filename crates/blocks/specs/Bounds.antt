-- What follows from the facts of a sound state: bounds of the fields that rows are written from, and that these rows
-- are octets. Document 01, The image ("Sound: .."; A0, A1, A3). Assumes nothing.
use Rattle.std.specs.Prelude.{◌≤◌, ◌<◌, ◌≡◌, true, length}
use Rattle.laws.specs.Loops.{every}
use Rattle.octets.specs.Little.{is_octet}
use Rattle.model.specs.Types.{Pair}
use Rattle.model.specs.Layout.{most_data, most_monitors}

-- what a pair's row is written from: fields that fit
pub record Fits (q : Pair) : Type 0 where
  pub handle-most : q.handle < most_monitors
  pub kind-most : q.address_type ≤ 1
  pub address-length : length q.address ≡ 6
  pub address-octets : every is_octet q.address ≡ true
  pub silent-most : q.since_good < 600
  pub ticks-most : q.ticks < 254
  pub packets-most : q.packets ≤ 4294967295
  pub sum-most : q.sum < 18446744073709551616
  pub kept-octet : q.kept < 256
  pub event-octet : q.event < 256
  pub adv-most : length q.adv ≤ most_data
  pub adv-octets : every is_octet q.adv ≡ true
