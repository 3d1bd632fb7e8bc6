-- The engine's second pass, from the table of the first: what it emits, and that a checker accepts it. Each file uses those above it.
pub mod Sets
pub mod Replay
pub mod Trees
pub mod Subst
pub mod Stepwise
pub mod Place
pub mod CaseTrees
pub mod Gates
pub mod Loop
pub mod Outputs
pub mod Emit
pub mod Fields
pub mod Text
pub mod Proof
pub mod Statement
