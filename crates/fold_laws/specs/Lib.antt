-- The engine's first pass, as a table over pure lists. Read from the top: each file uses those above it.
pub mod Signs
pub mod Same
pub mod Cases
pub mod Table
pub mod Entries
pub mod Facts
pub mod Invariant
pub mod Folded
pub mod Engine
