pub mod HeldLaws
mod HeadLaws
