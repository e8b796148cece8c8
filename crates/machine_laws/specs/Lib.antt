-- What stands in the core machine, and what its laws say.
pub mod Stands
pub mod MachineLaws
pub mod SerialRun
pub mod Ends
pub mod Answers
