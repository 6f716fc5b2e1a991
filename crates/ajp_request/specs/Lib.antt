pub mod Tables
pub mod Spelling
pub mod Reading
pub mod Writing
pub mod Parts
