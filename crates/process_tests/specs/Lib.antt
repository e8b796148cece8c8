-- What is so of a process on a bench.
pub mod Bench
