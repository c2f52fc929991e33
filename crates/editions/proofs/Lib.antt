pub mod BlockLaws
pub mod ExactlyLaws
pub mod FactsLaws
pub mod ImagesLaws
pub mod InFullLaws
pub mod RowsLaws
