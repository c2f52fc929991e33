-- Where an event ends, and that a walk over whole events meets each of them.
pub mod Walk
pub mod WalkLaws
pub mod WalkedTurns
