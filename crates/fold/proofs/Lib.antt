-- The laws; rt itself finds the proof of each function by its place.
pub mod OperandLaws
pub mod EntryLaws
pub mod PassLaws
