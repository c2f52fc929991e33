-- The rows of document 01 (P1 to P10) and of requests, over the engine as blocks.
pub mod Edges
pub mod EdgesLaws
pub mod InFullLaws
pub mod Additions
pub mod AdditionsLaws
