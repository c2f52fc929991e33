-- Names of numbers: tables of rows, the words of refusals, the names of UUIDs.
pub mod Names
pub mod NamesLaws
pub mod Refusals
pub mod RefusalsLaws
pub mod Uuids
pub mod UuidsLaws
