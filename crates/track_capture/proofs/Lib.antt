-- The lemmas of capturing.
pub mod PickLemmas
pub mod BlockLemmas
