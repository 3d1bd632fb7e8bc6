-- What holds of the first pass's table, and that it tells folded forms apart. Each file uses those above it, and the definitions of specs/.
pub mod Signs
pub mod Same
pub mod Cases
pub mod Entries
pub mod Facts
pub mod Invariant
pub mod Step
pub mod Folded
pub mod Engine
