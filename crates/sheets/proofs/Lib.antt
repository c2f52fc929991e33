pub mod BackLaws
pub mod Claims
pub mod LeastLaws
pub mod ReadingLaws
pub mod SignsLaws
pub mod WritingLaws
