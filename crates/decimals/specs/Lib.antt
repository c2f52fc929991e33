-- Numbers in decimal, and the laws of writing and reading them.
pub mod Decimals
pub mod WritingTurns
pub mod ReadingLaws
