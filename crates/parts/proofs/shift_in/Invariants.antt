use Rattle.laws.specs.Put.{put}
use lib.ListN.{take, drop}
use mathlib.Core.Path.{◌≡◌}
use Rattle.parts.proofs.shift_in.Given as goal

abbrev pub invariant-loop-j : goal.invariant-loop-j
invariant-loop-j l = l.t ≡ put l.initial.t l.to (take l.j (drop l.from l.initial.t))
