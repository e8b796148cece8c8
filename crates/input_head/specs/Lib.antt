-- What an input's head is for a session, and what reading it takes.
pub mod Input
pub mod Taken
pub mod Answers
pub mod Steps
pub mod Laws
