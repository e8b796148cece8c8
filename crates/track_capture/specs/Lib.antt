-- How takes are counted, what is captured of a block of the input, and what that does to the capture ring.
pub mod Picked
pub mod Counted
