pub mod Spelling
pub mod Names
pub mod Packet
pub mod Head
pub mod Places
pub mod Reading
pub mod FirstPlace
pub mod Moments
