pub mod DueLaws
pub mod LineLaws
pub mod LoopLaws
pub mod PlainLaws
pub mod ListLaws
pub mod ReplyLaws
