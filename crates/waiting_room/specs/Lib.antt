pub mod Stays
pub mod Rooms
pub mod Counts
pub mod Looks
pub mod Turns
pub mod Longest
