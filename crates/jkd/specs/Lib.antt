pub mod Demo
pub mod Process
pub mod Words
