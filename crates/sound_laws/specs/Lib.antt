-- The statements of the laws.
pub mod Files
pub mod Tracks
pub mod Values
pub mod Desks
