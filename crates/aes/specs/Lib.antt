-- The blocks of this crate as the octets of FIPS 197.
pub mod Blocks
pub mod BlocksLaws
pub mod MixedLaws
pub mod TablesLaws
