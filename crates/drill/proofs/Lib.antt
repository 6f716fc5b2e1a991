pub mod BoundLaws
pub mod DataLaws
pub mod EchoLaws
pub mod EndLaws
pub mod FirstGetLaws
pub mod FirstPostLaws
pub mod GoingOnLaws
pub mod LengthLaws
pub mod MeetingLaws
mod AnsweredLaws
mod BodyLaws
mod ClosingLaws
mod CountLaws
mod PassLaws
mod RequestLaws
mod SiteLaws
mod SlotLaws
mod StartLaws
mod WireLaws
