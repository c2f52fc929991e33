use mathlib.Core.Path.{refl, ap}
use Rattle.std.specs.Prelude.{Ok}
use Rattle.additions.specs.Additions.{next}
use Rattle.additions.specs.Pieces.{course_after}
use Rattle.additions.proofs.after.Goals as goal

pub returns-in-Ok : goal.returns-in-Ok
unfolding course_after next
returns-in-Ok c = rw c.in-Ok.is (ap (λ n. record { held = 0; lines = n; stop = Ok tt }) c.saturating_add.ensures)

pub returns-in-Err : goal.returns-in-Err
unfolding course_after
returns-in-Err c = rw c.in-Err.is refl
