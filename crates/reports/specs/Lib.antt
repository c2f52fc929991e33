-- What the program of a standby says and asks.
pub mod Texts
pub mod MessagesLaws
pub mod FitsLaws
pub mod Options
pub mod Choices
pub mod ChoicesLaws
