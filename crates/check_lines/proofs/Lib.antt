pub mod DueLaws
pub mod EvenLaws
pub mod OnceLaws
