-- What contracts see of the looks of a cycle, of the cycle, and of the thread between two.
pub mod Patient
pub mod Cycle
pub mod Plays
pub mod Kept
pub mod Leaves
