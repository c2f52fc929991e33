-- Words put into an output, and the pieces of a line in words.
pub mod Says
pub mod SaysLaws
pub mod Pieces
pub mod PiecesLaws
pub mod Uuids
pub mod UuidsLaws
