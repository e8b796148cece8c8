-- What a run is asked for, what keeps it from being played, and what it leaves where it is.
pub mod Request
pub mod Ending
pub mod Opening
pub mod Loading
pub mod Controlled
pub mod Recorded
pub mod Reported
pub mod Counted
pub mod Played
pub mod Unplayed
pub mod Ready
pub mod Complete
pub mod Causes
