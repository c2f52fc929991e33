pub mod Outcomes
pub mod Gives
pub mod WorksLaws
pub mod Numbers
