-- What a source's file is when it is opened, and what its frames are.
pub mod Refusals
pub mod Opened
pub mod Told
pub mod Spans
pub mod Answers
pub mod Steps
pub mod Laws
pub mod Lines
pub mod Slots
pub mod Held
