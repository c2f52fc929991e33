use Rattle.laws.specs.Tests.{pick}
use Rattle.advert.specs.Condition.{well_formed}
use Rattle.advert.proofs.well_formed.Goals as goal

pub returns-in-Patterns : goal.returns-in-Patterns
unfolding well_formed pick
returns-in-Patterns c = rw c.in-Patterns.is c.patterns_form.ensures

pub returns-in-Uuid : goal.returns-in-Uuid
unfolding well_formed pick
returns-in-Uuid c = rw c.in-Uuid.is c.uuid_form.ensures

pub returns-in-Irk : goal.returns-in-Irk
unfolding well_formed pick
returns-in-Irk c = rw c.in-Irk.is c.irk_form.ensures

pub returns-in-Address : goal.returns-in-Address
unfolding well_formed pick
returns-in-Address c = rw c.in-Address.is c.address_form.ensures
