pub mod Lines
pub mod Verdicts
pub mod Replays
