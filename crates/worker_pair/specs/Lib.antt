-- The two workers on one thread, and the core machine that they are.
pub mod Begun
pub mod Met
pub mod Never
pub mod Takes
pub mod Tied
pub mod Catching
pub mod Runs
pub mod Apart
pub mod Starts
pub mod Steps
pub mod Closes
pub mod Plays
