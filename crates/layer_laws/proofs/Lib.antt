-- The proofs of the laws.
pub mod NearLemmas
pub mod SpanLemmas
