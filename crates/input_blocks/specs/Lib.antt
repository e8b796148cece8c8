-- What the input of a run sounds like, and how far it was read.
pub mod Rest
pub mod Front
pub mod State
pub mod Kept
pub mod Laws
