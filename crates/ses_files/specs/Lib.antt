-- What contracts see of files and streams of the system.
pub mod Counts
