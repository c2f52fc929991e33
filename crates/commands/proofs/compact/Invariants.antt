use Rattle.commands.specs.Kept.{Holds, rows_of}
use Rattle.model.specs.Commands.{of_other}
use Rattle.model.specs.Types.{Pair}
use Rattle.laws.specs.Loops.{keep}
use Rattle.laws.specs.Put.{put}
use mathlib.Core.Path.{◌≡◌}
use mathlib.Core.List.{List}
use lib.ListN.{length, take}
use Prim.Native.Nat.{◌≤◌, ◌-◌}
use Rattle.model.specs.Layout.{pairs_at}
use Rattle.commands.proofs.compact.Given as goal

abbrev pub invariant-loop-i : goal.invariant-loop-i
invariant-loop-i l =
    (l.k ≤ l.i) × (l.i ≤ l.count) × (length l.s ≡ length l.initial.s) ×
    ((qs : List Pair) → Holds l.initial.s qs → l.count ≡ length qs → (l.k ≡ length (keep (of_other l.h) (take l.i qs))) ×
    (l.s ≡ put l.initial.s pairs_at (rows_of (keep (of_other l.h) (take l.i qs)))))

abbrev pub decreases-loop-i : goal.decreases-loop-i
decreases-loop-i l =
    l.count - l.i
