pub mod ContainerLaws
pub mod KeepingLaws
pub mod ListLaws
pub mod LogLaws
pub mod StartLaws
pub mod WorldLaws
