pub mod EdgesLaws
pub mod KeptLaws
pub mod LaidLaws
pub mod RestoresLaws
pub mod SizesLaws
pub mod WatchedLaws
