-- The book of visits.
pub mod Book
pub mod BookLaws
pub mod BookClaims
pub mod Frames
pub mod FramesLaws
pub mod FramesClaims
