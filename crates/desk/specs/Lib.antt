-- An address as people write it, and what is said of a device.
pub mod Written
pub mod WrittenLaws
pub mod Says
pub mod SaysLaws
