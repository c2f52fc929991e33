pub mod Additions
pub mod Pieces
pub mod AnswersTurns
pub mod TextsLaws
pub mod LinesLaws
