-- What the laws of mixing say.
pub mod Mixing
pub mod Wide
