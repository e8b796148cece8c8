-- What contracts see of a process, what it promises of its rings and its journal, and what its calls do.
pub mod Told
pub mod Captured
pub mod ProcessState
pub mod Promised
pub mod Playing
pub mod Looked
pub mod Meetings
pub mod Cycles
pub mod Heard
pub mod Making
pub mod Noting
pub mod CutOff
pub mod Laws
