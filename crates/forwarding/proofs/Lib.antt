pub mod AttributeLaws
pub mod ForwardLaws
pub mod FirstPieceLaws
pub mod PositionLaws
pub mod IdLaws
