pub mod Digits
pub mod Packed
