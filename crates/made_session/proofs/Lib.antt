-- Lemmas of the made session.
pub mod ListLemmas
pub mod NameLemmas
pub mod PlaylistLemmas
pub mod ToneLemmas
pub mod ValidLemmas
mod MadeVectors
