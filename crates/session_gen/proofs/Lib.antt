-- What the proofs stand on.
pub mod SumLemmas
pub mod MadeLemmas
pub mod PlanLemmas
pub mod MasterLemmas
pub mod TotalLemmas
