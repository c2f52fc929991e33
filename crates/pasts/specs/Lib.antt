-- Watching worked out from past frames alone: starts, windows, kept RSSI, duplicates, the answers and the state; that
-- document 01's engine, with its stored timers and sums, holds and writes just that.
pub mod Pair
pub mod Past
pub mod Says
pub mod ListsLaws
