-- The laws; rt itself finds the proof of each function by its place.
pub mod MiterLaws
pub mod BeginLaws
pub mod ClauseLaws
