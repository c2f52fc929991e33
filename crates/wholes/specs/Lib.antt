-- The whole block of a state: the core (crate model), behind it the index by device of document 02, T-02, and behind
-- that the editions of T-12. `Index` says what the index is, `Whole` what a whole block is and when it is sound,
-- `Engine` is the engine over whole blocks; the rest are laws.
pub mod Layout
pub mod Index
pub mod Whole
pub mod Heads
pub mod HeadsLaws
pub mod Engine
pub mod Sizes
pub mod Laid
pub mod Kept
pub mod Watched
