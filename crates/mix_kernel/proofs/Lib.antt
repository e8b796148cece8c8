-- Lemmas of the kernels.
pub mod Items
pub mod Formulas
pub mod SideLemmas
pub mod Parts
pub mod Ranges
pub mod NearLemmas
