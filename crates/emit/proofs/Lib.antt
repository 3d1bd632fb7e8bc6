-- The laws; rt itself finds the proof of each function by its place.
pub mod NormalLaws
pub mod OutputLaws
pub mod PassLaws
pub mod BeginLaws
