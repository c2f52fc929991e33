-- What a packet means to each monitor, as one octet a handle (document 01, Conditions, Watching, by history).
pub mod Marks
pub mod Fields
pub mod Monitors
pub mod Keyed
pub mod Options
pub mod Asked
pub mod Admitted
