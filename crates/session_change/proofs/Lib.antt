-- What is written at a place of a session, what its lanes, sends and playlists then are, and the law of orders.
pub mod PlaceLemmas
pub mod LaneLemmas
pub mod SendLemmas
pub mod RegionLemmas
pub mod OrderLemmas
mod ChangeVectors
