-- Why the butler's thread keeps what it promises.
pub mod KeptLemmas
pub mod MediaLemmas
pub mod ServeLemmas
