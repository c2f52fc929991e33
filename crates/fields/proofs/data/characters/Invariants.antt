use Rattle.fields.specs.CutsLaws.{Left}
use Rattle.fields.specs.Data.{characters_text}
use Rattle.fields.proofs.data.characters.Given as goal

abbrev pub invariant-loop-c : goal.invariant-loop-c
invariant-loop-c l = Left (characters_text) l.s l.c-index l.initial.out l.initial.end l.out l.end
