-- Why workers that did nothing yet are ready.
pub mod ReadyLemmas
