pub mod Counts
pub mod Month
pub mod Tables
pub mod TablesLaws
pub mod Counted
pub mod Counting
