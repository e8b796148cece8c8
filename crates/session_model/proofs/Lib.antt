-- The tests of a session are the facts, lemmas on playlists and frames, and worked values.
mod Cases
mod TestLemmas
pub mod ValidityLaws
mod PlaceLemmas
mod WriteLemmas
mod SpanLemmas
mod StartLemmas
pub mod PlaylistLemmas
mod FrameLemmas
mod FileNameVectors
pub mod SessionVectors
mod BrokenNumbers
mod BrokenLinks
mod ValidVectors
mod SoundVectors
