-- What the calls of the library return and leave, in numbers.
pub mod NumberedLaws
pub mod Gives
pub mod GivesLaws
