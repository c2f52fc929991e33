use Rattle.parts.specs.Parts.{is_zero}
use Rattle.laws.specs.Loops.{every}
use mathlib.Core.Bool.{◌&&◌}
use lib.ListN.{drop}
use mathlib.Core.Path.{◌≡◌}
use Rattle.parts.proofs.zeros.Given as goal

abbrev pub invariant-loop-x : goal.invariant-loop-x
invariant-loop-x l = every is_zero l.s ≡ (l.all && every is_zero (drop l.x-index l.s))
