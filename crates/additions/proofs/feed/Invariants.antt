use lib.ListN.{length, drop}
use Prim.Native.Nat.{◌+◌, ◌-◌, ◌≤◌}
use mathlib.Core.Path.{◌≡◌}
use Rattle.additions.specs.Additions.{line_most}
use Rattle.additions.specs.Pieces.{fed}
use Rattle.additions.proofs.feed.Given as goal

abbrev pub invariant-loop-c : goal.invariant-loop-c
invariant-loop-c l =
    (l.c-index ≤ length l.text) × (length l.line ≡ line_most + 1)
    × (fed (record { state = l.initial.s; line = l.initial.line; course = l.initial.now }) l.text
    ≡ fed (record { state = l.s; line = l.line; course = l.now }) (drop l.c-index l.text))

abbrev pub decreases-loop-c : goal.decreases-loop-c
decreases-loop-c l =
    length l.text - l.c-index
