use Rattle.std.proofs.Common.{◌≡◌, ◌-◌, ◌*◌, ◌≤◌, length, drop}
use Rattle.model.specs.Layout.{most_monitors, most_pairs, turn_most}
use Rattle.model.specs.Types.{Model}
use Rattle.model.specs.Frames.{packet_of}
use Rattle.packets.specs.Firm.{Settled}
use Rattle.packets.specs.Starts.{Holding}
use Rattle.packets.specs.Handles.{Turns}
use Rattle.packets.proofs.starts.start_all.Given as goal

abbrev pub invariant-loop-h : goal.invariant-loop-h
invariant-loop-h l =
    (l.h ≤ most_monitors) × (l.held ≤ most_pairs) × (l.wrote ≤ turn_most * l.h) × (length l.s ≡ length l.initial.s)
    × (length l.out ≡ length l.initial.out) × (drop l.wrote l.out ≡ drop l.wrote l.initial.out)
    × ((m : Model) → Holding m l.initial.s l.n → Settled m (packet_of l.payload) l.acts l.under l.dev
    → Turns m (packet_of l.payload) l.h l.s l.held l.initial.out l.out l.wrote l.told)

abbrev pub decreases-loop-h : goal.decreases-loop-h
decreases-loop-h l =
    most_monitors - l.h
