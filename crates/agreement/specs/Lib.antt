-- The slow twin over blocks, as the contracts of its calls cite it, gives the first engine's answers, refusals and
-- images, call by call (document 02, T-07).
pub mod Claim
pub mod HeadLaws
pub mod AddedLaws
