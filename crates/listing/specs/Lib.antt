pub mod Gates
pub mod Counts
pub mod Listing
