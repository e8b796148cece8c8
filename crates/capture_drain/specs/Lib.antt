-- What contracts see of capture rings and take files, and what draining does to both.
pub mod Drains
pub mod State
pub mod Files
pub mod OneRing
