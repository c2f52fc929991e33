-- Images of earlier formats, and what they become.
pub mod Formats
pub mod KeptLaws
pub mod WrittenLaws
