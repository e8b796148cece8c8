-- Lemmas of the tests.
pub mod Blocks
pub mod Sources
