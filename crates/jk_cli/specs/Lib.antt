pub mod Ranges
pub mod Parts
pub mod Names
pub mod Orders
pub mod Plans
