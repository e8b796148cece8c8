-- Lemmas of the codec.
pub mod Samples
pub mod Pieces
pub mod Walk
pub mod Steps
pub mod Formats
pub mod Extensions
pub mod LaneLemmas
pub mod SplitLemmas
pub mod WideLemmas
