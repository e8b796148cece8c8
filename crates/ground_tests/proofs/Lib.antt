-- Lemmas of the tests of the ground.
mod BoxLemmas
