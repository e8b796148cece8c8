-- What a block of a track holds, and what reading it leaves.
pub mod Blocks
pub mod Reading
