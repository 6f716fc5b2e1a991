pub mod AddedLemmas
pub mod FirstLemmas
pub mod NoticeLemmas
pub mod RefusedLemmas
pub mod RoomLemmas
pub mod SiteLemmas
