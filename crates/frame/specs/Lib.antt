pub mod Frames
pub mod Kinds
pub mod Fields
pub mod Rows
