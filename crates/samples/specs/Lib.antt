pub mod Definitions
pub mod Resolvents
pub mod Bench
pub mod Refusals
pub mod Folds
pub mod Miters
