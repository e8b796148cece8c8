-- Which answers there are.
pub mod AnswerLemmas
