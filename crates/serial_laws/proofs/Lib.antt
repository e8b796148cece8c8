-- Why letters lead a run on.
pub mod LeadLemmas
pub mod GivenLemmas
pub mod RestLemmas
pub mod AnsweredLemmas
pub mod TruthLemmas
pub mod PacedLemmas
