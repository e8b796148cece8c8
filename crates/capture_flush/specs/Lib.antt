-- What take files hold: while blocks come, and once they are finished.
pub mod Blocks
pub mod Taking
pub mod Writes
pub mod Flushed
pub mod Finished
pub mod Closing
pub mod Laws
