use Rattle.decimals.specs.Decimals.{grown_from}
use mathlib.Core.Path.{◌≡◌}
use lib.ListN.{drop}
use Rattle.decimals.proofs.value_of.Given as goal

abbrev pub invariant-loop-c : goal.invariant-loop-c
invariant-loop-c l = grown_from l.value (drop l.c-index l.word) ≡ grown_from 0 l.word
