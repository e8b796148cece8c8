-- Why the lists are those that were heard, and the blocks those of their entries.
pub mod SameChange
pub mod BringLemmas
pub mod RoomLemmas
pub mod PutLemmas
pub mod EntryLemmas
pub mod PieceLemmas
pub mod RolledLemmas
pub mod ReadLemmas
