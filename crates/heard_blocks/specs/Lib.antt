-- What contracts see of tracks as they are heard along a journal, and of the blocks that they make.
pub mod Lists
pub mod State
pub mod Playing
pub mod Reading
