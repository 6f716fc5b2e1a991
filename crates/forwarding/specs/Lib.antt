pub mod Forwards
pub mod FirstPiece
pub mod Recovery
pub mod Ids
pub mod Routes
