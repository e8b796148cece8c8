-- Why what is sent of a track is what is due, and has its block.
pub mod ListLemmas
pub mod NothingLemmas
pub mod RoomLemmas
pub mod RunLemmas
pub mod ReadLemmas
pub mod ServeLemmas
pub mod EnterLemmas
pub mod FirstLemmas
mod HandLemmas
