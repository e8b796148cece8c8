-- The rings of a run, new and joined again.
pub mod Rings
pub mod Laws
