pub mod Commands
pub mod Ends
pub mod Orders
pub mod Plain
