-- What clauses say of a ring and of its two ends, and the rule by which they share it.
pub mod Sender
pub mod Receiver
pub mod Answers
pub mod Rings
pub mod Rule
pub mod Steps
pub mod Places
