-- What one look does to a track, what is kept of each track between looks, and the entry of a cycle.
pub mod SpareBoxes
pub mod Looks
pub mod Played
pub mod Answers
pub mod Heard
