-- What starting a state answers and leaves; the position moved by one frame.
pub mod Start
pub mod StartLaws
pub mod PositionLaws
