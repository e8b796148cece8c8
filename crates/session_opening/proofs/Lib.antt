-- Lemmas of the opening.
pub mod SourceLaws
pub mod PlanLaws
pub mod SoundLemmas
pub mod FileLemmas
mod PlanVectors
