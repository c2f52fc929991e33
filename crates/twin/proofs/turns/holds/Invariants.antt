use Rattle.laws.specs.Loops.{some as some_of}
use Rattle.std.proofs.Common.{◌≡◌, drop}
use Rattle.twin.specs.Seen.{list_of, pair_in}
use Rattle.twin.proofs.turns.holds.Given as goal

abbrev pub invariant-loop-b : goal.invariant-loop-b
invariant-loop-b l =
    some_of (pair_in l.t l.i l.h) (drop l.b-index l.b-items) ≡ some_of (pair_in l.t l.i l.h) (list_of l.fn.seen)
