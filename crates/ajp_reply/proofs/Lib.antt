pub mod ReplyLaws
pub mod StreamLaws
pub mod RefusalLaws
