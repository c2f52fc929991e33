use Rattle.twin.specs.PairRowsLaws.{Rowed}
use Rattle.twin.proofs.image.put_pairs.Given as goal

abbrev pub invariant-loop-j : goal.invariant-loop-j
invariant-loop-j l =
    Rowed l.t l.n l.seen l.initial.b l.j l.b
