-- Whether a packet matches the monitor that a command adds, from the octets of both frames. Document 01, Conditions;
-- document 02, T-13. Assumes nothing.
use Rattle.std.specs.Prelude.{◌≡◌, ℕ, ◌<◌, true, List, length}
use Rattle.model.specs.Monitors.{type_in}
use Rattle.model.specs.Commands.{adds_monitor}

-- a command's parameters add a monitor: the condition's type is among them
pub record Adds (l : List ℕ) : Type 0 where
  pub sub : adds_monitor l ≡ true
  pub long : type_in l < length l
