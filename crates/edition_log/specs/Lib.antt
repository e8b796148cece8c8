-- What contracts see of an edition, and what its calls do.
pub mod EditionState
pub mod Entered
pub mod Steps
pub mod Laws
