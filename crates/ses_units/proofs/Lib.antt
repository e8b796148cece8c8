-- Lemmas on names and lanes, and worked values of the definitions.
pub mod NameLemmas
pub mod PointLemmas
pub mod LaneLemmas
pub mod EditLemmas
pub mod RefusalLemmas
mod NameVectors
mod LaneVectors
