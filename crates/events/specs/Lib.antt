-- The octets of events and reports (document 01, Watching, by history).
pub mod Octets
pub mod OctetsLaws
pub mod WrittenLaws
