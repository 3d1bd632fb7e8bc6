pub mod Emission
pub mod Known
pub mod Parts
