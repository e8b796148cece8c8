-- What contracts see of a butler, what is so of it, and what its calls do.
pub mod ButlerState
pub mod Table
pub mod Sends
pub mod Serving
pub mod Begins
pub mod Holds
pub mod Turns
pub mod Faults
pub mod Hushed
pub mod Takes
pub mod Steps
pub mod Moves
pub mod Laws
pub mod CoreMoves
