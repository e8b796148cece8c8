pub mod Fault
pub mod File
pub mod Place
pub mod Session
