pub mod CallsLaws
pub mod EdgesTurns
pub mod HistoryLaws
pub mod Proved
pub mod SameLaws
