pub mod AheadLaws
pub mod GoesOnLaws
pub mod PiecesLaws
pub mod TurnedLaws
pub mod WholeLaws
