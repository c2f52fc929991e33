use Rattle.bournejade.specs.GivesLaws.{replayed}
use mathlib.Core.Bool.{true}
use Rattle.bournejade.specs.NumberedLaws.{known-replay}
use Rattle.bournejade.proofs.bournejade_replay.Goals as goal

pub returns : goal.returns
returns c = let a = c.args in
    replayed _ a.out.now _ _ c.replay-ran.result _ _ _
    (known-replay (λ p. true) _ a.state.now a.journal.now) c.replay-ran.ensures
    c.read_told.ensures.1 c.read_told.ensures.2 c.read_told.ensures.0
