pub mod ReplyLaws
pub mod NameLaws
pub mod PassageLaws
pub mod WriterLaws
