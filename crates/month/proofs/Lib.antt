pub mod GivesLaws
pub mod NumbersLaws
pub mod OutcomesLaws
