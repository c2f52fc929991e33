-- The rows of the service record in text, and the time of day at the first tick.
pub mod Rows
pub mod RowsLaws
pub mod Clocks
pub mod ClocksLaws
