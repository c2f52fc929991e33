pub mod Digests
pub mod Numbers
