-- Any number of failovers (document 02, T-14). Read in this order: Chain (a run and its failovers), Told (what events
-- tell, against the history rule), Hear (events read from octets), Failovers (the whole claim). These four are
-- definitions alone; the theorem is `failovers` of Proof. Whole shows that a run is an unbroken session; Core,
-- Answers and Turns what the core engine says; Hears and Reads that a host reads it.
pub mod Chain
pub mod Told
pub mod Hear
pub mod Failovers
pub mod CoreLaws
