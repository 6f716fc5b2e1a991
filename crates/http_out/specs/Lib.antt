pub mod Head
pub mod Dates
pub mod Framing
pub mod ReplyBytes
pub mod Passage
pub mod Writer
pub mod Own
