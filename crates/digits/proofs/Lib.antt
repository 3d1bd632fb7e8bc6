pub mod DigitLaws
pub mod PackLaws
pub mod ReadLaws
