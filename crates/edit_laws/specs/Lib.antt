-- What the laws of commands say, and the words that only they need.
pub mod Rows
pub mod CommandLaws
