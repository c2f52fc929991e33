use Rattle.std.proofs.Common.{ap, ◌∙◌}
use Rattle.std.specs.Prelude.{Result, Ok, Err}
use Rattle.laws.specs.Tests.{pick}
use Rattle.advert.specs.declared.FormError.{FormError}
use Rattle.advert.proofs.KindLaws.{form-known, form-unknown}
use Rattle.advert.proofs.condition_form.Goals as goal

pub returns-in-Err : goal.returns-in-Err
returns-in-Err c = let a = c.args in
    rw c.in-Err.ensures.0 (form-unknown a.kind a.condition.now c.in-Err.ensures.1)

pub returns-then-well_formed : goal.returns-then-well_formed
unfolding pick
returns-then-well_formed c = let a = c.args in
    rw c.if-well_formed.true at (form-known c.in-Ok.k a.kind a.condition.now _ c.in-Ok.ensures c.well_formed-in-Ok.ensures)

pub returns-else-well_formed : goal.returns-else-well_formed
unfolding pick
returns-else-well_formed c = let a = c.args in
    rw c.if-well_formed.false at (form-known c.in-Ok.k a.kind a.condition.now _ c.in-Ok.ensures c.well_formed-in-Ok.ensures)
