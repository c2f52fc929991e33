-- Sessions, images and replay of document 01 (Lines, Refusal numbers, Sessions and failover), over any engine.
-- Read in this order: Machine (what an engine is, and its laws), Session (calls and what they execute), Saved
-- (images, replay and the record `Failover`), Past (past frames). These four are definitions alone.
-- Cuts, Refusals, Runs and Replay hold proofs; Replay ends in the theorem `failover`, History in `walk-past`.
-- Corners shows the ends of the ranges, Toy a small engine that keeps the laws.
pub mod Machine
pub mod Session
pub mod Saved
pub mod Additions
pub mod Past
