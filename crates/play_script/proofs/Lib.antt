pub mod PartsLemmas
pub mod DraftLemmas
pub mod PlayLemmas
pub mod FormLaws
pub mod OnlyForms
pub mod StepLaws
