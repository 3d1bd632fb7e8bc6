-- The laws; rt itself finds the proof of each function by its place.
pub mod PlaceLaws
pub mod RowLaws
pub mod LinkLaws
pub mod BucketLaws
