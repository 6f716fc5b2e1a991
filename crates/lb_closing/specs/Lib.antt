pub mod CloseErrors
pub mod Closings
pub mod OneHistory
