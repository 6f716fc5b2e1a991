pub mod SpotLaws
pub mod TableLaws
pub mod LeastLaws
pub mod PickLaws
pub mod PlaceLaws
mod IndexLaws
