use Rattle.std.proofs.Common.{◌≡◌, ◌≤◌, ◌-◌, length}
use Rattle.standby.proofs.files.read_all.Given as goal

abbrev pub invariant-loop-held : goal.invariant-loop-held
invariant-loop-held l =
    (l.held ≤ length l.initial.text) × (length l.text ≡ length l.initial.text)

abbrev pub decreases-loop-held : goal.decreases-loop-held
decreases-loop-held l =
    length l.initial.text - l.held
