-- The place after a frame's is that of the next frame.
pub mod PlaceLemmas
