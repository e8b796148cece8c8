-- Why control's calls do its letter.
pub mod FrontLemmas
pub mod LineLemmas
pub mod LetterLemmas
pub mod PublishLemmas
pub mod TakenLemmas
pub mod WholeLemmas
