pub mod CloseLaws
pub mod ListLaws
pub mod WholeLaws
