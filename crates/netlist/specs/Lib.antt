pub mod Says
pub mod Plain
pub mod Pairs
pub mod Counts
