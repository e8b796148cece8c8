-- Lemmas of a frame.
pub mod RouteLemmas
pub mod SumLemmas
pub mod LinkLemmas
pub mod OwnLemmas
pub mod WalkLemmas
pub mod FrameLemmas
