-- Lemmas on words, forms and the table; worked values: each line computes, or the crate isn't proved.
pub mod WordLemmas
pub mod NumberLemmas
pub mod VerbLemmas
pub mod ReadingLemmas
pub mod PlainWords
pub mod SplitLemmas
pub mod BackLemmas
pub mod PrintLaws
pub mod OfForms
pub mod MadeOf
pub mod ReadLaws
pub mod WrongLaws
pub mod ShortLaws
mod LineVectors
mod RefusedVectors
mod TextVectors
