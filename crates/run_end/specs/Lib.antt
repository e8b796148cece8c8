-- What a run leaves at its end, and how it comes to that.
pub mod Failures
pub mod Started
pub mod Depths
pub mod LastTurns
pub mod Lists
pub mod AtRest
pub mod Parted
pub mod Passed
pub mod Takes
pub mod Left
pub mod Finished
pub mod Mastered
pub mod Lines
pub mod Beginning
