-- What the lines of an image leave in a block, and that those of a sound state leave its block.
pub mod Lines
pub mod LinesLaws
pub mod Rows
pub mod RowsLaws
pub mod SpreadLaws
pub mod FillLaws
pub mod SignedLaws
