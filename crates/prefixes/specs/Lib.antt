-- The editions of a block: read one by one (`Held`), in force (`Force`), sound (`Sound`), as they ought to stand
-- (`Laid`), one more (`More`).
pub mod Held
pub mod HeldLaws
pub mod Force
pub mod ForceLaws
pub mod Sound
pub mod SoundLaws
pub mod Laid
pub mod LaidLaws
pub mod More
pub mod MoreLaws
