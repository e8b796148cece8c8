-- The lemmas of silence.
pub mod ZeroLemmas
