-- An edition stays the state after its edits.
pub mod AsOpenedLemmas
pub mod PlayLaws
pub mod TouchLemmas
pub mod KeepLemmas
