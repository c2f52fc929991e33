-- How a program says that it ended.
pub mod Exits
