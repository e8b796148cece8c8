-- Why what a run tells, plays and leaves is so.
pub mod OpeningLemmas
pub mod InputLemmas
pub mod ControlLemmas
pub mod ReportLemmas
pub mod PlayedLemmas
pub mod CauseLemmas
pub mod ExportLemmas
pub mod PlayLemmas
