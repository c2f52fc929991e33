-- Whether an advertisement meets a monitor's condition (document 01, Conditions).
pub mod Parts
pub mod PartsLaws
pub mod Sections
pub mod SectionsLaws
pub mod Spans
pub mod SpansLaws
pub mod Either
pub mod Pattern
pub mod Uuid
pub mod Address
pub mod Irk
pub mod IrkLaws
pub mod Kinds
pub mod Condition
pub mod Cost
