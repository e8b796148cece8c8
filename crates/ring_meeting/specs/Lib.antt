-- What the butler's ends are told in a meeting, and what a meeting asks and leaves.
pub mod Told
pub mod Meeting
