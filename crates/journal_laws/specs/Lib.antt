-- What the laws of journals say, and the words that only they need.
pub mod Acknowledged
pub mod Blocks
pub mod TakeRuns
pub mod TakeSounds
pub mod OneThread
pub mod OrderWords
pub mod LineLaws
pub mod Exports
pub mod NeverBack
