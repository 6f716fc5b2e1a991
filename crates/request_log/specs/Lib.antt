pub mod Formats
pub mod Lines
pub mod LogRules
pub mod LogStates
