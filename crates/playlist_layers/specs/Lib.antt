-- What the contracts of a track's sound cite.
pub mod Blocks
pub mod Reads
pub mod Spans
pub mod Laws
