-- No line has more words than the room of an output.
pub mod PiecesLaws
pub mod FieldsLaws
pub mod LinesLaws
