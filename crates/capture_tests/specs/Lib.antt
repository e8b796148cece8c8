-- What is so of a butler on a bench.
pub mod Bench
