pub mod AgainLemmas
pub mod GivenLemmas
pub mod KindLemmas
pub mod NoteLemmas
pub mod PathLineLemmas
pub mod ReportLemmas
pub mod SiteLaws
pub mod StartLaws
