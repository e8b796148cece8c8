-- Lemmas of the words.
pub mod PartsLaws
mod WordsVectors
mod PlayVectors
