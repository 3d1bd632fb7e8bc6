-- What holds of the lines that the second pass emits, up to the theorem. Each file uses those above it, and the definitions of specs/.
pub mod Sets
pub mod Replay
pub mod Trees
pub mod Subst
pub mod Stepwise
pub mod Place
pub mod CaseTrees
pub mod Gates
pub mod Loop
pub mod Outputs
pub mod Emit
pub mod Fields
pub mod Text
pub mod ProofLaws
pub mod Correct
