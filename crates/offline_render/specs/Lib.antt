-- What the contracts of a frame cite.
pub mod Frame
pub mod Links
pub mod Walk
