use Prim.Native.Nat.{◌-◌, ◌≤◌}
use mathlib.Core.Path.{◌≡◌}
use mathlib.Core.List.{[], ◌∷◌}
use lib.ListN.{length, get_or}
use Rattle.laws.specs.Tests.{pick}
use Rattle.laws.specs.Loops.{up_to}
use Rattle.laws.specs.Put.{put}
use Rattle.model.specs.Frames.{packet_of}
use Rattle.model.specs.Layout.{most_monitors}
use Rattle.marks.specs.Admitted.{admits_at}
use Rattle.marks.proofs.options.admit_each.Given as goal

abbrev pub invariant-loop-h : goal.invariant-loop-h
invariant-loop-h l =
    (l.h ≤ most_monitors) × (length l.acts ≡ length l.initial.acts)
    × (l.acts ≡ put l.initial.acts 0 (up_to (λ g. pick (admits_at l.s (packet_of l.payload) g) (get_or l.initial.acts g 0) 0 ∷ []) l.h))

abbrev pub decreases-loop-h : goal.decreases-loop-h
decreases-loop-h l =
    most_monitors - l.h
