-- What it means that lines of a report stand.
pub mod FallLemmas
pub mod PartLemmas
pub mod EditLemmas
pub mod EntryLemmas
pub mod FileLemmas
pub mod AgreeLemmas
