pub mod ClearLaws
