pub mod AskLaws
pub mod CommandLaws
pub mod DeskLaws
pub mod PageLaws
pub mod PlaceLaws
pub mod RefusalLaws
mod AskingLaws
mod FieldLemmas
mod MarkLaws
mod PageCommandLaws
mod PageTextLaws
mod PartLaws
mod PutLaws
mod WrittenLaws
