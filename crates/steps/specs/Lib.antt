pub mod Kept
pub mod Proofs
pub mod Gates
