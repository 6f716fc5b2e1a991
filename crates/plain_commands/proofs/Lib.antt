pub mod DryLemmas
pub mod LogLemmas
pub mod TurnLemmas
pub mod PlainLemmas
pub mod ReachLemmas
pub mod ScriptStartLemmas
pub mod SessionLemmas
