-- Why the numbers decide of an entry as the entries behind it do.
pub mod AtLemmas
pub mod OrderLemmas
pub mod HeardLemmas
pub mod NoteLemmas
pub mod DecideLemmas
pub mod CountLemmas
pub mod LoopLemmas
