-- What the functions on statuses say, with their laws.
pub mod Statuses
pub mod StatusesLaws
pub mod Codes
pub mod CodesLaws
pub mod Lookup
pub mod LookupLaws
pub mod AnswersLaws
pub mod SecondLaws
