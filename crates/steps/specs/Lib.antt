-- One step of the model: it keeps a sound state sound, moves the position by one, and writes at most 2,880 octets;
-- that a window's sum and mean are those of its RSSI values; what the contracts of commands, packets and ticks say of
-- a step.
pub mod ListsLaws
pub mod FactsLaws
pub mod WholeLaws
pub mod Typed
pub mod TypedLaws
pub mod SumsLaws
pub mod ExecutedLaws
pub mod KeepsLaws
pub mod StartsLaws
pub mod SizesLaws
pub mod AnswersLaws
pub mod MeanLaws
pub mod Stepped
pub mod SteppedLaws
