-- The laws; rt itself finds the proof of each function by its place.
pub mod PrintLaws
