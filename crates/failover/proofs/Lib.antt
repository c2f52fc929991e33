pub mod AloneLaws
pub mod AwaitsLaws
pub mod BlocksLaws
pub mod LaidLaws
pub mod PlainlyLaws
pub mod ProofLaws
pub mod Proved
