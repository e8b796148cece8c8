-- The proofs of the laws of journals.
pub mod JournalLemmas
pub mod AcknowledgedLemmas
pub mod BlockLemmas
pub mod TakeRunLemmas
pub mod TakeLemmas
pub mod InterleavedLemmas
pub mod TakeSoundLemmas
pub mod OneThreadLemmas
pub mod NextCycleLemmas
pub mod OrderListLemmas
pub mod OrderWordLemmas
pub mod LineLemmas
pub mod ReplyLemmas
pub mod AckLemmas
pub mod ExportLemmas
pub mod NeverBackLemmas
mod WordVectors
