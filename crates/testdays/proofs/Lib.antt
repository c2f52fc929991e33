pub mod ProofLaws
