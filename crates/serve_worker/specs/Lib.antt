-- What is so of the butler's thread, what it keeps, and how it ends.
pub mod Faults
pub mod Kept
pub mod Serves
pub mod Ends
