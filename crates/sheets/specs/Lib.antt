-- The text of sixteen rows, written and read back.
pub mod Sheet
pub mod Least
pub mod Reading
pub mod Writing
pub mod Joins
pub mod JoinsLaws
pub mod Sites
pub mod SitesLaws
