pub mod CornersLaws
pub mod ShownLaws
