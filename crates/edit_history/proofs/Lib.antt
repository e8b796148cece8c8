-- How a history grows, and its laws.
pub mod HistoryLemmas
pub mod LawLemmas
