-- The laws; rt itself finds the proof of each function by its place.
pub mod AlikeLaws
pub mod CaseLaws
pub mod EmitLaws
pub mod LineLaws
pub mod SubstLaws
