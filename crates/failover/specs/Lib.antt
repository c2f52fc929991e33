-- Demand 3, whole, over records: `Demand3` states it of document 01's states, `Proof` proves it; `Claim` states it of
-- states with editions and sessions with additions (document 02, T-12), `Proved` proves it, `Plainly` has it for
-- sessions without. `Laid` carries what is shown over records to blocks of octets, `Blocks` to whole blocks. `Awaits`
-- is replay while additions are still to be given again.
pub mod View
pub mod ViewLaws
pub mod AgreeLaws
pub mod ReadLaws
pub mod Demand3
pub mod Grows
pub mod Claim
pub mod Plainly
pub mod Alone
