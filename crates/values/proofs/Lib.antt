pub mod ValueLaws
pub mod BitLaws
