-- What stands of a process while it looks, meets and makes entries.
pub mod CountedLemmas
pub mod ToldLemmas
pub mod SettledLemmas
pub mod CapturedLemmas
pub mod BlockLemmas
pub mod TruthLemmas
pub mod PromiseLemmas
pub mod MeetPromiseLemmas
pub mod HearsLemmas
pub mod MasterLemmas
pub mod EndLemmas
mod PutLemmas
mod BeginLemmas
mod CapturingLemmas
mod NewLemmas
mod ClosedLemmas
mod PlayingLemmas
mod MeetingLemmas
mod TellingLemmas
mod EntryLemmas
mod MadeLemmas
mod NextLemmas
mod CycleLemmas
mod NotedLemmas
