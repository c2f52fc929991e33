-- Laws of the definitions in Statuses.
use Rattle.std.specs.Prelude.{ℕ, ◌≡◌, refl, true, not, List, get_or}
use Rattle.std.proofs.Common.{sym, ap}
use Rattle.laws.specs.TestsLaws.{pick-false}
use Rattle.rule.specs.Engine.{find, slot}
use Rattle.model.specs.Types.{Model}
use Rattle.model.specs.Monitors.{unknown}
use Rattle.model.specs.Commands.{present, adds_monitor, add_status, cancel_status, enable_status}
use Rattle.model.specs.Layout.{most_monitors}
use Rattle.statuses.specs.Statuses.{adds_by, add_of, cancel_of, enable_of}

pub add-of : (m : Model) (l : List ℕ) → adds_monitor l ≡ true
    → add_status m l ≡ add_of (present (slot m.mons most_monitors 0)) l
unfolding adds_monitor adds_by add_status add_of
add-of m l e = sym (pick-false unknown _ (ap not e))

pub cancel-of : (m : Model) (l : List ℕ) → cancel_status m l ≡ cancel_of (present (find m.mons (get_or l 1 0))) l
unfolding cancel_status cancel_of
cancel-of m l = refl

pub enable-of : (m : Model) (l : List ℕ) → enable_status m l ≡ enable_of m.filter l
unfolding enable_status enable_of
enable-of m l = refl
