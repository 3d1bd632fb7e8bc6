pub mod SetLaws
pub mod StoreLaws
pub mod PlaceLaws
pub mod JoinLaws
pub mod InsertLaws
