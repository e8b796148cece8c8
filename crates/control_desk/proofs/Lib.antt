-- How control goes on.
pub mod CountLemmas
pub mod ReadingLemmas
pub mod WritingLemmas
pub mod ControlLemmas
pub mod TakingLemmas
pub mod CallLemmas
mod ReplyVectors
pub mod LawLemmas
