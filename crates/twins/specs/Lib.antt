-- The slow twin (document 02, T-07): its state is the settings, the editions and the executed frames themselves; that
-- it gives the first engine's answers, refusals and images, call by call, in every session of at most 128 executed
-- frames.
pub mod Twin
pub mod Claim
pub mod First
