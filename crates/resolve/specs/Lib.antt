-- Resolvable private addresses: the Core Specification's functions e and ah, when a key resolves an address, laws, the
-- sample.
pub mod Resolve
pub mod Laws
pub mod Computed
pub mod Examples
pub mod ExamplesLaws
