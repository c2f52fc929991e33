pub mod AcceptedLaws
pub mod EdgesLaws
pub mod LengthsLaws
pub mod LevelsLaws
pub mod Radio
