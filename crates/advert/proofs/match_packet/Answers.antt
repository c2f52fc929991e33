use Rattle.advert.proofs.KindLaws.{meets-unknown}
use Rattle.laws.specs.Tests.{pick}
use Rattle.advert.specs.Condition.{meets}
use Rattle.advert.proofs.match_packet.Goals as goal

pub returns-in-Ok-Patterns : goal.returns-in-Ok-Patterns
unfolding meets pick
returns-in-Ok-Patterns c = rw (← c.in-Ok-Patterns.ensures, c.in-Ok-Patterns.field-0-is) c.patterns_meet.ensures

pub returns-in-Ok-Uuid : goal.returns-in-Ok-Uuid
unfolding meets pick
returns-in-Ok-Uuid c = rw (← c.in-Ok-Uuid.ensures, c.in-Ok-Uuid.field-0-is) c.uuid_meets.ensures

pub returns-in-Ok-Irk : goal.returns-in-Ok-Irk
unfolding meets pick
returns-in-Ok-Irk c = rw (← c.in-Ok-Irk.ensures, c.in-Ok-Irk.field-0-is) c.irk_meets.ensures

pub returns-in-Ok-Address : goal.returns-in-Ok-Address
unfolding meets pick
returns-in-Ok-Address c = rw (← c.in-Ok-Address.ensures, c.in-Ok-Address.field-0-is) c.address_meets.ensures

pub returns-in-Err : goal.returns-in-Err
returns-in-Err c = let a = c.args in
    meets-unknown a.kind a.condition.now a.address_type a.address.now a.adv.now a.scan.now c.in-Err.ensures.1
