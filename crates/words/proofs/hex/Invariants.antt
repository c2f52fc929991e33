use Rattle.words.specs.Says.{Says}
use lib.ListN.{take}
use Rattle.lines.specs.Hex.{hex_of}
use Rattle.words.proofs.hex.Given as goal

abbrev pub invariant-loop-x : goal.invariant-loop-x
invariant-loop-x l = Says l.initial.out l.initial.end (hex_of (take l.x-index l.s)) l.out l.end
