-- What a look does to a track, and what a window then shows.
mod ListLemmas
mod LookLemmas
mod PlaybackLemmas
pub mod HeardLemmas
mod NotingLemmas
pub mod TrackLemmas
mod PlaybacksLemmas
mod LookUpLemmas
mod NewLemmas
