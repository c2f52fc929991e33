use Rattle.words.specs.Says.{Says}
use Rattle.words.specs.Pieces.{number_text}
use lib.ListN.{drop}
use Rattle.words.proofs.number.Given as goal

abbrev pub invariant-loop-i : goal.invariant-loop-i
invariant-loop-i l = Says l.initial.out l.initial.end (number_text (drop l.i l.s)) l.out l.end
