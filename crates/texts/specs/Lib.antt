-- Texts put together from words and numbers; addresses, types, times and levels in text.
pub mod Text
pub mod JoinedLaws
pub mod ChainsLaws
pub mod Words
pub mod WordsLaws
