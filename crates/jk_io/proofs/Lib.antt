pub mod ChunkLaws
pub mod DecimalLaws
pub mod DoorLaws
pub mod MemoryLaws
pub mod PieceLaws
pub mod ReadLaws
pub mod TalkLaws
pub mod ToldLaws
