-- Laws of the definitions in Numbered.
use Rattle.std.specs.Prelude.{ℕ, List}
use Rattle.twin.specs.Hears.{Start}
use Rattle.twin.specs.Silent.{Looks}
use Rattle.twin.specs.Numbered.{Added, Sent, Follows}

pub start-added : (t : List ℕ) (a k : ℕ) → Start t a k → Added t a
start-added t a k s = record { monitor = s.monitor; commands = s.commands; adds = s.adds }

pub start-sent : (t : List ℕ) (a k : ℕ) → Start t a k → Sent t k
start-sent t a k s = record { number = s.packet; sends = s.sends }

pub looks-follows : (t : List ℕ) (a k n : ℕ) → Looks t a k n → Follows t k n
looks-follows t a k n l = record { order = l.order; few = l.few; formed = l.formed }
