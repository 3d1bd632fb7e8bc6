pub mod Bools
pub mod Sets
