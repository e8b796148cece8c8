-- Lemmas of blocks, spans and layers.
mod Numbers
mod LayerSteps
mod Places
mod HeardLemmas
pub mod Reading
mod MeetingLemmas
pub mod SpanLemmas
pub mod HiddenLaws
