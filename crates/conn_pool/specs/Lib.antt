pub mod Backs
pub mod Begins
pub mod Idle
pub mod Judging
pub mod Looks
pub mod Pings
pub mod Reaches
pub mod Watched
