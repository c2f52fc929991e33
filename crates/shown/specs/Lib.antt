-- A line of a journal, of an image or of answers in words.
pub mod Commands
pub mod Frames
pub mod Image
pub mod Line
pub mod ReadLaws
