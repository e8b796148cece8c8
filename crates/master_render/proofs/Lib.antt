-- Lemmas of a rendered master.
mod FormLemmas
mod FillLemmas
mod WrittenLemmas
mod BytesLemmas
mod BlockLemmas
mod FileVectors
