-- Editions of the event prefix (document 02, T-12): `Editions` says what they are, `Engine` is the engine with them
-- over records, `Block` their octets behind the index of a block; the rest are laws and rows. Demand 3 with additions
-- is in the crate failover.
pub mod Editions
pub mod Engine
pub mod Rows
pub mod Table
pub mod TableLaws
pub mod Block
pub mod InFull
