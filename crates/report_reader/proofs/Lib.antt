-- Lemmas on fields, lines and reports; worked values: each computes, or the crate isn't proved.
pub mod FieldLemmas
pub mod FlatLemmas
pub mod NoteLemmas
pub mod NotesLoop
pub mod StateLemmas
pub mod LineLemmas
pub mod ItemLemmas
pub mod CutLemmas
pub mod ReadingLemmas
pub mod StageLemmas
pub mod WholeLemmas
pub mod BadLemmas
pub mod AnswerLemmas
pub mod LawLemmas
pub mod WrittenLemmas
mod FieldVectors
mod ReaderVectors
