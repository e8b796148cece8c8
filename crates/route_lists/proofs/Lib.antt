-- The rule of the shared list is kept; what writer and readers know of it stays true; the definitions' worked values.
pub mod ListLemmas
pub mod RuleLemmas
pub mod ReadLemmas
pub mod WriteLemmas
pub mod SharedVectors
