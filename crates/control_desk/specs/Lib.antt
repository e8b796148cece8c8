-- Control on one thread: its lines one after another, and what each is answered.
pub mod Seen
pub mod Texts
pub mod Standing
pub mod State
pub mod GoesOn
pub mod Steps
pub mod Taking
pub mod Laws
