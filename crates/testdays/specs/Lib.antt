-- Any number of failovers as firmware sees it through the library (document 02, T-14): `Days` states it, `Proof`
-- proves it.
pub mod Days
