-- The laws of mixing, and the lemmas that they stand on.
pub mod SumLemmas
pub mod MixingLaws
pub mod WideLaws
