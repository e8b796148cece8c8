-- A window stays the window of its offers.
pub mod BoxLemmas
pub mod GivenLemmas
mod MarkLemmas
mod KeepLemmas
mod PassLemmas
pub mod ShowLemmas
mod Vectors
