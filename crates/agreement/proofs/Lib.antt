pub mod CallsLaws
pub mod Proved
