pub mod JudgeLaws
pub mod SendLaws
mod BeginLaws
mod DialLaws
mod NotedLaws
mod RowLaws
mod WatchLaws
