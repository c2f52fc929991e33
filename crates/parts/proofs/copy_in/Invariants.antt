use Rattle.laws.specs.Put.{put}
use lib.ListN.{take}
use mathlib.Core.Path.{◌≡◌}
use Rattle.parts.proofs.copy_in.Given as goal

abbrev pub invariant-loop-i : goal.invariant-loop-i
invariant-loop-i l = l.out ≡ put l.initial.out l.at (take l.i l.src)
