-- Why a block of a track is what its regions sound like at the places of its frames.
pub mod PlaceLemmas
pub mod RunLemmas
pub mod TrackLemmas
pub mod ReadLemmas
mod BlockVectors
