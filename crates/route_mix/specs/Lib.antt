-- What the contracts of a desk cite.
pub mod Blocks
pub mod Feeds
pub mod Faders
pub mod Turns
pub mod Desks
