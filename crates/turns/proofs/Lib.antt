pub mod EndsLaws
pub mod MovesTurns
pub mod EndsTurns
