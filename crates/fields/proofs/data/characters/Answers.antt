use Prim.Native.Nat.{◌+◌}
use native.Mathlib.Omega.{arith}
use Rattle.fields.specs.CutsLaws.{left-turn, left_end}
use Rattle.fields.specs.Data.{characters_text}
use Rattle.fields.specs.Turns.{characters-end, characters-next}
use Rattle.fields.proofs.data.characters.Goals as goal

pub loop-c-init : goal.loop-c-init
loop-c-init c = λ o r t. t

pub loop-c-preserved : goal.loop-c-preserved
loop-c-preserved c = left-turn (characters_text)
    c.args.s.now c.loop-c.c-index (c.loop-c.c-index + 1) (characters-next c.args.s.now
    c.loop-c.c-index (omega arith)) c.loop-c.invariant c.character-end.ensures

pub returns : goal.returns
returns c = left_end (characters_text) c.args.s.now c.loop-c.c-index
    (characters-end c.args.s.now c.loop-c.c-index (omega arith))
    c.loop-c.invariant
