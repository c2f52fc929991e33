-- The texts that a takeover writes, and a takeover in turns: definitions and laws.
pub mod BlocksLaws
pub mod Events
pub mod EventsLaws
pub mod WholesLaws
pub mod SplitLaws
pub mod Told
pub mod ToldLaws
pub mod Swap
pub mod SwapLaws
pub mod Takeover
pub mod MovesTurns
pub mod Ends
pub mod PartedLaws
pub mod StandsTurns
pub mod ArrivesLaws
pub mod Output
pub mod OutputLaws
