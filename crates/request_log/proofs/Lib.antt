pub mod LogLaws
pub mod MomentLaws
pub mod RowLaws
