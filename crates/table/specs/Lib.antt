pub mod Rows
pub mod Links
pub mod Buckets
