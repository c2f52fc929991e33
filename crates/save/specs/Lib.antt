-- What save writes of a block, and that it is the image's text.
pub mod Text
pub mod TextLaws
pub mod StepsTurns
pub mod Passed
pub mod PassedLaws
pub mod ImageLaws
