pub mod CutLemmas
pub mod DirectiveLemmas
pub mod EntryLemmas
pub mod IgnoredLemmas
pub mod LineLemmas
pub mod StatusLemmas
pub mod SubjectLemmas
pub mod WordLemmas
