-- Rings that are made, joined again, and fit those that get their ends.
mod RingLemmas
mod JoiningLemmas
pub mod LawLemmas
