-- What the outside holds, how often it failed, and what each call does to both.
pub mod Faults
pub mod Streams
pub mod Files
pub mod Outside
pub mod Calls
pub mod Stored
pub mod Memory
pub mod FixedList
