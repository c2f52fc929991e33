-- The sizes of the index: every entry is a device of seven octets and a mask of sixteen bits, and there are no more
-- entries than pairs. Assumes nothing.
use Rattle.std.specs.Prelude.{ℕ, ◌<◌, ◌≡◌, true, List, length}
use Rattle.laws.specs.Loops.{every}
use Rattle.octets.specs.Little.{is_octet}
use Rattle.model.specs.Types.{device}
use Rattle.wholes.specs.Layout.{device_size}
use Rattle.wholes.specs.Index.{IndexEntry}

-- a device's octets
pub record Seven (d : List ℕ) : Type 0 where
  pub long : length d ≡ device_size
  pub octets : every is_octet d ≡ true

-- an entry whose row has its size
pub record Fitting (e : IndexEntry) : Type 0 where
  pub device : Seven e.device
  pub mask : e.mask < 65536
