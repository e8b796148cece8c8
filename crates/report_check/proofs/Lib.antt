-- How what is found line by line is the first that falls.
pub mod FirstLemmas
pub mod EditLemmas
pub mod EntryLemmas
pub mod SilenceLemmas
pub mod FormLemmas
pub mod LoopLemmas
pub mod ReportLemmas
pub mod BehindLemmas
pub mod CheckLemmas
pub mod AgreeLemmas
