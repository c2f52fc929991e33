-- The service record as a picture: the axis, and the rows that are kept for it.
pub mod Axis
pub mod AxisLaws
pub mod Kept
pub mod KeptLaws
