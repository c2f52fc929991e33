pub mod Claims
pub mod CountedLaws
pub mod EdgesLaws
pub mod MonthLaws
