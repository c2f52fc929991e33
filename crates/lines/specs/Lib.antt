-- Lines of upper-case hexadecimal (document 01, Lines).
pub mod Hex
pub mod HexLaws
pub mod TextsLaws
pub mod Frame
pub mod FrameLaws
pub mod Answers
pub mod AnswersLaws
pub mod StepsTurns
