-- The laws of commands, and the lemmas that they stand on.
pub mod RowLemmas
pub mod FrameLemmas
pub mod SendLemmas
pub mod LinkLemmas
pub mod RouteChangeLemmas
pub mod TrackChangeLemmas
pub mod MadeLemmas
pub mod FoundLemmas
pub mod ResolveLemmas
pub mod CommandLaws
pub mod WholeVectors
