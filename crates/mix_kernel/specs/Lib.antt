-- What the contracts of the kernels cite.
pub mod Blocks
pub mod Bounds
